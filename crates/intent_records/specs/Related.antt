-- What a search for the records of some transactions on related paths finds.
use Rattle.std.specs.Prelude.{◌≡◌, ℕ, Bool, false, ◌&&◌, ◌||◌, List, Option, Some, None, is_some, nat_eq, filter, flat_map}
use Rattle.std.specs.List.{list_any}
use Rattle.std.specs.Ordering.{nat_cmp}
use Rattle.std.specs.BTreeSet.{BTreeSet, contains}
use Rattle.doc_path.specs.Path.{Parts, related}
use Rattle.txn_types.specs.Tablet.{Intent}
use Rattle.intent_records.specs.declared.primary_record.PrimaryRecord.{PrimaryRecord}
use Rattle.intent_records.specs.declared.record_key.RecordKey.{RecordKey}
use Rattle.intent_records.specs.Holds.{own}

-- whether a provisional write is on a path related to one of these
abbrev pub on_related : List Parts → Intent → Bool
on_related paths p = list_any (related p.path) paths

-- those of some transactions, one transaction after another
abbrev pub related_writes : List Parts → List ℕ → List Intent → List Intent
related_writes paths xs ps = flat_map (λ x. filter (on_related paths) (own x ps)) xs

-- the position is one of these, where there are some
abbrev pub has_place : Option (BTreeSet ℕ) → ℕ → Bool
has_place None i = false
has_place (Some positions) i = contains nat_cmp positions i

-- the transaction has a record at this position on such a path
abbrev pub placed : (Parts → Bool) → ℕ → ℕ → List (RecordKey × PrimaryRecord) → Bool
placed on x i es =
    list_any (λ (e : RecordKey × PrimaryRecord). on e.0.path && (nat_eq e.0.txn x && nat_eq e.0.position i)) es

-- the transactions that are asked for have the positions that were found
pub record Has (asked : ℕ → Bool) (found : ℕ → ℕ → Bool) (places : ℕ → Option (BTreeSet ℕ)) : Type 0 where
  pub asks : (x : ℕ) → is_some (places x) ≡ asked x
  pub has : (x i : ℕ) → has_place (places x) i ≡ (asked x && found x i)

-- the positions that were found are added, at the transactions that are asked for
pub record Adds (found : ℕ → ℕ → Bool) (before after : ℕ → Option (BTreeSet ℕ)) : Type 0 where
  pub asks : (x : ℕ) → is_some (after x) ≡ is_some (before x)
  pub has : (x i : ℕ) → has_place (after x) i ≡ (has_place (before x) i || (is_some (before x) && found x i))
