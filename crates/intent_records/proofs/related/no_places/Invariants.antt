use Rattle.std.proofs.Common.{◌≡◌, ℕ, ◌||◌, false}
use Rattle.std.specs.Prelude.{is_some}
use Rattle.std.specs.List.{list_any}
use Rattle.std.specs.BTreeMap.{get, is_at}
use Rattle.std.specs.BTreeSet.{contains}
use Rattle.std.specs.Ordering.{nat_cmp}
use Rattle.intent_records.specs.Related.{has_place}
use Rattle.intent_records.proofs.related.no_places.Given as goal

abbrev pub invariant-loop-txn : goal.invariant-loop-txn
invariant-loop-txn l = record {
  asks : (x : ℕ) → (is_some (get nat_cmp l.places x) || list_any (is_at (nat_cmp x)) l.txn-iterator) ≡ contains nat_cmp l.txns x;
  has : (x i : ℕ) → has_place (get nat_cmp l.places x) i ≡ false;
}
