-- What a scan goes through.
use Rattle.std.specs.Prelude.{ℕ, List, [], ◌∷◌, ◌++◌, Option, length, if◌then◌else◌, option_map}
use Rattle.std.specs.BTreeMap.Range.{entries_between}
use Rattle.std.specs.declared.ops.Bound.TheVariants.{Included, Unbounded}
use Rattle.doc_path.specs.Path.{Parts, is_prefix}
use Rattle.txn_data.specs.declared.row.Row.{Row}
use Rattle.txn_types.specs.Writes.{set_at, row_with}
use Rattle.regular_records.specs.Records.{write_of}
use Rattle.regular_records.specs.Store.{Key, PathVersions, VersionStore, newest_upto}
use Rattle.regular_records.specs.Kept.{key_order}

-- the value at a path by the newest word on it
abbrev pub value_upto : ℕ → VersionStore → Parts → Option (List ℕ)
value_upto t store q = set_at q (option_map write_of (newest_upto t q store (length q)))

-- the rows of the first entries, as long as they lie beneath p
abbrev pub rows_down : ℕ → Parts → VersionStore → List (Key × PathVersions) → List Row
rows_down t p store [] = []
rows_down t p store (e ∷ es) =
    if is_prefix p e.0.items then row_with e.0.items (value_upto t store e.0.items) ++ rows_down t p store es else []

-- the entries from a key on
abbrev pub entries_from : Key → VersionStore → List (Key × PathVersions)
entries_from k store = entries_between key_order (Included k) Unbounded store.entries
