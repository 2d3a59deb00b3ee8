-- The paths at which two sets of versions are asked together.
use Rattle.std.specs.Prelude.{◌≡◌, Option, Some, IfSome, ℕ, ◌≤◌, List, [], ◌∷◌, length, map, flat_map}
use Rattle.std.specs.List.{AllByRecursion}
use Rattle.doc_path.specs.Path.{Parts}
use Rattle.txn_data.specs.declared.version.Version.{Version}
use Rattle.txn_data.specs.declared.row.Row.{Row}
use Rattle.txn_data.specs.declared.written.Written.{Written}
use Rattle.txn_types.specs.Writes.{value, row_with, with_path}
use Rattle.txn_types.specs.Tablet.{writes_at}
use Rattle.regular_records.specs.Store.{Key}

abbrev pub Place : Type 0
Place = Key × Option (List ℕ)

-- the paths of these places
abbrev pub paths_in : List Place → List Parts
paths_in es = map (λ (e : Place). e.0.items) es

-- the values of the rows are those of these writes
abbrev pub HaveValues : List Written → List Row → Type 0
HaveValues ws rows = AllByRecursion (λ (r : Row). r.value ≡ value ws r.path) rows

-- what is known of a path is what these writes leave there
abbrev pub IsKnown : List Written → Parts → Option (List ℕ) → Type 0
IsKnown ws q known = IfSome known (λ v. value ws q ≡ Some v)

abbrev pub AreKnown : List Written → List Place → Type 0
AreKnown ws es = AllByRecursion (λ (e : Place). IsKnown ws e.0.items e.1) es

-- paths in path order, each once, with those of these rows
abbrev pub with_rows : List Parts → List Row → List Parts
with_rows ps [] = ps
with_rows ps (r ∷ rs) = with_rows (with_path r.path ps) rs

-- one to five parts
abbrev pub HasParts : Parts → Type 0
HasParts p = (1 ≤ length p) × (length p ≤ 5)

-- the rows of these paths, where each has a value
abbrev pub rows_at : ℕ → List Version → List Parts → List Row
rows_at t vs ps = flat_map (λ q. row_with q (value (writes_at t vs) q)) ps
