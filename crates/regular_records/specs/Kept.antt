-- What always holds of the map of versions.
use Rattle.std.specs.Prelude.{◌≤◌, List, [], ◌∷◌, length}
use Rattle.std.specs.BTreeMap.{IsOrdered}
use Rattle.std.specs.Cmp.Lexicographic.{slice_cmp}
use Rattle.std.specs.Ordering.{nat_cmp, on, flip_args, then_cmp}
use Rattle.std.specs.declared.cmp.Ordering.{Ordering}
use Rattle.regular_records.specs.declared.version_key.VersionKey.{VersionKey}
use Rattle.regular_records.specs.Store.{Key, PathVersions, VersionStore}

-- the keys of the versions of one path, the newest first
abbrev pub version_key_order : VersionKey → VersionKey → Ordering
version_key_order = flip_args (then_cmp (on (λ (m : VersionKey). m.at) nat_cmp) (on (λ (m : VersionKey). m.number) nat_cmp))

-- keys by their parts
abbrev pub key_order : Key → Key → Ordering
key_order j k = slice_cmp (slice_cmp nat_cmp) j.items k.items

-- each key is a path, and its slots are in order
abbrev pub AreKept : List (Key × PathVersions) → Type 0
AreKept [] = Unit {0}
AreKept (e ∷ es) = ((1 ≤ length e.0.items) × (length e.0.items ≤ 5) × IsOrdered version_key_order e.1) × AreKept es

abbrev pub IsKept : VersionStore → Type 0
IsKept store = IsOrdered key_order store × AreKept store.entries
