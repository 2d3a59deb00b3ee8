-- What the parts of a call do with the maps.
use Rattle.std.specs.Prelude.{◌≡◌, ℕ, Bool, false, ◌&&◌, List, [], ◌∷◌, ◌++◌, Option, Some, None, is_none, nat_eq, if◌then◌else◌, filter_map, option_map, slice_get}
use Rattle.doc_path.specs.Path.{Parts}
use Rattle.txn_data.specs.declared.meta.Meta.{Meta}
use Rattle.txn_data.specs.declared.found.Found.{Found}
use Rattle.txn_types.specs.Tablet.{same_path}
use Rattle.intent_records.specs.declared.record_key.RecordKey.{RecordKey}

-- each transaction with the status tablet that its metadata names
abbrev pub told : (ℕ → Option Meta) → List ℕ → List Found
told meta_of xs = filter_map (λ x. option_map (λ (m : Meta). record { txn = x; status = m.status }) (meta_of x)) xs

abbrev pub paths_or_none : Option (List Parts) → List Parts
paths_or_none None = []
paths_or_none (Some paths) = paths

-- the path is added to those of the transaction, and the metadata is kept if it is the first
pub record Lists (metas : ℕ → Option Meta) (index : ℕ → Option (List Parts)) (meta : Meta) (path : Parts) (metas_after : ℕ → Option Meta) (index_after : ℕ → Option (List Parts)) : Type 0 where
  pub paths : (x : ℕ) → index_after x ≡ (if nat_eq meta.txn x then Some (paths_or_none (index x) ++ path ∷ []) else index x)
  pub first : (x : ℕ) → metas_after x ≡ (if nat_eq meta.txn x && is_none (index x) then Some meta else metas x)

-- nothing changes, if a transaction without paths has no metadata
pub record ListsNothing (metas : ℕ → Option Meta) (index : ℕ → Option (List Parts)) (meta : Meta) (metas_after : ℕ → Option Meta) (index_after : ℕ → Option (List Parts)) : Type 0 where
  pub paths : (x : ℕ) → index_after x ≡ index x
  pub first : (index meta.txn ≡ None → metas meta.txn ≡ None) → (x : ℕ) → metas_after x ≡ metas x

abbrev pub is_path : Option Parts → Parts → Bool
is_path None path = false
is_path (Some q) path = same_path q path

-- the key of a record of this transaction, whose paths are these
abbrev pub is_listed : ℕ → List Parts → RecordKey → Bool
is_listed x paths k = nat_eq x k.txn && is_path (slice_get paths k.position) k.path
