use Rattle.std.proofs.Common.{◌≡◌, ℕ, ◌||◌}
use Rattle.std.specs.List.{list_any}
use Rattle.std.specs.BTreeMap.{is_at, keys}
use Rattle.std.specs.BTreeSet.{contains}
use Rattle.std.specs.Ordering.{nat_cmp}
use Rattle.intent_records.proofs.intents.Intents.txns.Given as goal

abbrev pub invariant-loop-txn : goal.invariant-loop-txn
invariant-loop-txn l =
    (x : ℕ) → (contains nat_cmp l.found x || list_any (is_at (nat_cmp x)) l.txn-iterator) ≡ list_any (is_at (nat_cmp x)) (keys l.self.metas)
