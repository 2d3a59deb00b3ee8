-- For which lists of provisional writes the records of a tablet stand.
use Rattle.std.specs.Prelude.{◌≡◌, ℕ, ◌≤◌, List, [], ◌∷◌, Option, Some, None, length, slice_get, if◌then◌else◌, map, filter}
use Rattle.std.specs.Ordering.{nat_cmp}
use Rattle.std.specs.BTreeMap.{get, IsOrdered}
use Rattle.doc_path.specs.Path.{Parts}
use Rattle.txn_data.specs.declared.meta.Meta.{Meta}
use Rattle.txn_data.specs.declared.provisional.Provisional.{Provisional}
use Rattle.txn_types.specs.Lists.{Member}
use Rattle.txn_types.specs.Tablet.{Intent, is_of, txn_of, same_path}
use Rattle.intent_records.specs.declared.intents.Intents.{Intents}
use Rattle.intent_records.specs.declared.primary_record.PrimaryRecord.{PrimaryRecord}
use Rattle.intent_records.specs.declared.record_key.RecordKey.{RecordKey}
use Rattle.intent_records.specs.Keys.{key_order}

-- the provisional writes of a transaction, in the order of adding
abbrev pub own : ℕ → List Intent → List Intent
own x ps = filter (is_of x) ps

-- the metadata of the first of them
unfoldable pub first_meta : ℕ → List Intent → Option Meta
first_meta x [] = None
first_meta x (p ∷ ps) = if is_of x p then Some p.meta else first_meta x ps

-- a provisional write without the metadata
abbrev pub provisional_of : Intent → Provisional
provisional_of p = record { path = p.path; txn = txn_of p; wrote = p.wrote; number = p.number; op = p.op }

abbrev pub path_of : Intent → Parts
path_of p = p.path

-- what is kept of a provisional write at its place
abbrev pub primary_of : Intent → PrimaryRecord
primary_of p = record { number = p.number; op = p.op; wrote = p.wrote }

-- the record that a provisional write has at a path
abbrev pub record_at : Parts → Option Intent → Option PrimaryRecord
record_at path None = None
record_at path (Some p) = if same_path p.path path then Some (primary_of p) else None

-- some paths, if there are any
abbrev pub any_paths : List Parts → Option (List Parts)
any_paths [] = None
any_paths (p ∷ ps) = Some (p ∷ ps)

-- the maps have the metadata of the first write of each transaction; the paths of its writes, in the order of adding; and
-- at each path, for each transaction, the write that was added there as its first, second, and so on; and
-- each path has parts
pub record Holds (s : Intents) (ps : List Intent) : Type 0 where
  pub metas : (x : ℕ) → get nat_cmp s.metas x ≡ first_meta x ps
  pub index : (x : ℕ) → get nat_cmp s.index x ≡ any_paths (map path_of (own x ps))
  pub primary : (k : RecordKey) → get key_order s.records k ≡ record_at k.path (slice_get (own k.txn ps) k.position)
  pub ordered : IsOrdered key_order s.records
  pub parts : (p : Intent) → Member p ps → 1 ≤ length p.path
