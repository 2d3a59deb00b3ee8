-- The map of versions by path, and what is looked up in it.
use Rattle.std.specs.Prelude.{ℕ, ◌<◌, ◌≤◌, List, [], ◌∷◌, Option, Some, None, length, take, nat_le, nat_lt, if◌then◌else◌, zero, suc, filter_map, flat_map, Vec}
use Rattle.std.specs.declared.alloc.Global.{Global}
use Rattle.std.specs.BTreeMap.{BTreeMap, get_by}
use Rattle.std.specs.Cmp.Lexicographic.{slice_cmp}
use Rattle.std.specs.Ordering.{nat_cmp}
use Rattle.doc_path.specs.Path.{Parts}
use Rattle.txn_data.specs.declared.version.Version.{Version}
use Rattle.txn_types.specs.Lists.{or_else}
use Rattle.regular_records.specs.declared.version_key.VersionKey.{VersionKey}
use Rattle.regular_records.specs.declared.version_value.VersionValue.{VersionValue}
use Rattle.regular_records.specs.declared.word.Word.{Word}
use Rattle.regular_records.specs.Records.{later}

-- a slot of a path, which may have no version
abbrev pub Slot : Type 0
Slot = VersionKey × Option VersionValue

abbrev pub Key : Type 0
Key = Vec (List ℕ) Global

abbrev pub PathVersions : Type 0
PathVersions = BTreeMap VersionKey (Option VersionValue)

abbrev pub VersionStore : Type 0
VersionStore = BTreeMap Key PathVersions

abbrev pub version_of : Parts → VersionKey → VersionValue → Version
version_of p m h = record { path = p; at = m.at; wrote = h.wrote; number = m.number; op = h.op }

-- the version of a slot; numbers have 32 bits
abbrev pub shown : Parts → Slot → Option Version
shown p (m, None) = None
shown p (m, Some h) = if nat_lt m.number 4294967296 then Some (version_of p m h) else None

abbrev pub versions_on : Parts → List Slot → List Version
versions_on p slots = filter_map (shown p) slots

-- all versions, by path and then newest first
abbrev pub versions_of : List (Key × PathVersions) → List Version
versions_of es = flat_map (λ (e : Key × PathVersions). versions_on e.0.items e.1.entries) es

-- the first version of slots that are newest first, up to t
abbrev pub first_until : ℕ → Parts → List Slot → Option Version
first_until t p [] = None
first_until t p (s ∷ slots) = or_else (if nat_le s.0.at t then shown p s else None) (first_until t p slots)

abbrev pub first_at : ℕ → Parts → Option PathVersions → Option Version
first_at t p None = None
first_at t p (Some m) = first_until t p m.entries

-- what the map has at this path
abbrev pub path_versions_at : Parts → VersionStore → Option PathVersions
path_versions_at p store = get_by (λ k. slice_cmp (slice_cmp nat_cmp) p k.items) store

-- the newest version up to t at the first n prefixes of p
unfoldable pub newest_upto : ℕ → Parts → VersionStore → ℕ → Option Version
newest_upto t p store zero = None
newest_upto t p store (suc n) = later (newest_upto t p store n) (first_at t (take (suc n) p) (path_versions_at (take (suc n) p) store))

-- a word as a version on a path of at least its parts
abbrev pub word_version : Parts → Word → Version
word_version p w = record { path = take w.parts p; at = w.at.now; wrote = w.value.now.wrote; number = w.number; op = w.value.now.op }

-- the second word's path is longer than the first one's, and both are prefixes of p
abbrev pub IsLonger : Parts → Option Word → Option Word → Type 0
IsLonger p (Some w) (Some o) = (w.parts < o.parts) × (o.parts ≤ length p)
IsLonger p first second = Unit {0}
