-- What holds of the intents of snapshot writes, and of what a write is answered.
use Rattle.std.specs.Prelude.{◌≡◌, ℕ, ◌≤◌, List, Some, length, map, filter}
use Rattle.doc_path.specs.Path.{Parts, related}
use Rattle.txn_data.specs.declared.fate_of.FateOf.{FateOf}
use Rattle.txn_data.specs.declared.version.Version.{Version}
use Rattle.txn_types.specs.Tablet.{Intent, founds, others_on, conflict, greatest_above, related_commits}
use Rattle.conflict_matrix.specs.Conflict.{intents_of, any_meet}
use Rattle.conflict_matrix.specs.Decide.{least_open, overlap}

-- the intents of two snapshot writes conflict exactly where their paths are related
abbrev pub WritesMeetWhereRelated : Type 0
WritesMeetWhereRelated = (p q : Parts) → 1 ≤ length p → 1 ≤ length q → any_meet (intents_of p) (intents_of q) ≡ related p q

-- of the transactions found on related paths, the least that is open is the one that a tablet answers as the conflict
abbrev pub LeastOpenIsConflict : Type 0
LeastOpenIsConflict = (all ps : List Intent) (x : ℕ) (path : Parts) (fates : List FateOf)
    → least_open (founds all (others_on x path ps)) fates ≡ conflict x path fates ps

-- of the newest related version above the read time and the transactions found on related paths, the overlap is the
-- greatest commit time above the read time among those that a tablet looks at, if there is one
abbrev pub OverlapIsGreatestCommit : Type 0
OverlapIsGreatestCommit = (all ps : List Intent) (vs : List Version) (x : ℕ) (path : Parts) (fates : List FateOf) (read : ℕ)
    → overlap (Some read) (greatest_above read (map (λ (v : Version). v.at) (filter (λ (v : Version). related v.path path) vs))) (founds all (others_on x path ps)) fates
    ≡ greatest_above read (related_commits x path fates ps vs)
