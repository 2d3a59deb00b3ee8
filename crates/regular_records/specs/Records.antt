-- A set of versions as a list, and what it answers.
use Rattle.std.specs.Prelude.{ℕ, ◌&&◌, ◌||◌, List, [], ◌∷◌, Option, Some, None, nat_le, nat_lt, nat_eq, if◌then◌else◌, map, filter, option_map, length}
use Rattle.doc_path.specs.Path.{Parts, is_prefix, related, path_order}
use Rattle.txn_data.specs.declared.version.Version.{Version}
use Rattle.txn_data.specs.declared.met_at.MetAt.{MetAt}
use Rattle.txn_data.specs.declared.written.Written.{Written}
use Rattle.txn_types.specs.Tablet.{version_before, not_after}
use Rattle.regular_records.specs.declared.decided.Decided.{Decided}

-- of two versions the one that comes later in the order of commit time, write number and path, the second where they tie;
-- or the one that is there
abbrev pub later : Option Version → Option Version → Option Version
later None second = second
later (Some u) None = Some u
later (Some u) (Some v) = if version_before u v then Some v else Some u

-- the version, where it is not later than t and its path is a prefix of p
abbrev pub deciding : ℕ → Parts → Version → Option Version
deciding t p v = if nat_le v.at t && is_prefix v.path p then Some v else None

-- the newest version up to t whose path is a prefix of p
unfoldable pub newest : ℕ → Parts → List Version → Option Version
newest t p [] = None
newest t p (v ∷ vs) = later (deciding t p v) (newest t p vs)

-- its commit time and write number, and how many parts its path has
abbrev pub decided_by : Version → Decided
decided_by v = record { at = v.at; number = v.number; parts = length v.path }

abbrev pub decided : ℕ → Parts → List Version → Option Decided
decided t p vs = option_map decided_by (newest t p vs)

-- the commit times of the versions on paths related to p
abbrev pub times_on : Parts → List Version → List ℕ
times_on p vs = map (λ (v : Version). v.at) (filter (λ (v : Version). related v.path p) vs)

-- a version as a write
abbrev pub write_of : Version → Written
write_of v = record { path = v.path; op = v.op }

-- of two that were met the one with the greater commit time, and with the lesser path where the times are equal; or the
-- one that is there
abbrev pub better : Option MetAt → Option MetAt → Option MetAt
better None second = second
better (Some m) None = Some m
better (Some m) (Some n) =
    if nat_lt m.at n.at || (nat_eq m.at n.at && not_after (path_order n.path m.path)) then Some n else Some m
