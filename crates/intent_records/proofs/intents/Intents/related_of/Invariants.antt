use Rattle.std.proofs.Common.{◌≡◌, ℕ, List, ◌++◌, true, take}
use Rattle.std.specs.Prelude.{map}
use Rattle.std.specs.List.{list_any}
use Rattle.std.specs.BTreeMap.{get, is_at}
use Rattle.std.specs.BTreeSet.{contains}
use Rattle.std.specs.Ordering.{nat_cmp}
use Rattle.txn_types.specs.Tablet.{Intent}
use Rattle.intent_records.specs.Holds.{Holds, provisional_of}
use Rattle.intent_records.specs.Related.{related_writes, placed, Has}
use Rattle.intent_records.specs.Search.{near_any}
use Rattle.intent_records.proofs.intents.Intents.related_of.Given as goal

abbrev pub invariant-loop-path : goal.invariant-loop-path
invariant-loop-path l =
    Has (contains nat_cmp l.txns) (λ x i. placed (near_any (take l.path-index l.paths)) x i l.self.records.entries) (get nat_cmp l.places)

abbrev pub invariant-loop-txn : goal.invariant-loop-txn
invariant-loop-txn l = record {
  among : (x : ℕ) → list_any (is_at (nat_cmp x)) l.txn-iterator ≡ true → contains nat_cmp l.txns x ≡ true;
  listed : (ps : List Intent) → Holds l.self ps
      → l.list.items ++ map provisional_of (related_writes l.paths l.txn-iterator ps) ≡ map provisional_of (related_writes l.paths l.txns.keys ps);
}
