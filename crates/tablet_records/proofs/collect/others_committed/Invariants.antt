use Rattle.std.proofs.Common.{◌≡◌, ℕ, ◌||◌, ◌&&◌}
use Rattle.std.specs.List.{list_any}
use Rattle.std.specs.BTreeMap.{get, is_at, keys}
use Rattle.std.specs.BTreeSet.{contains, IsOrdered}
use Rattle.std.specs.Ordering.{nat_cmp}
use Rattle.tablet_records.specs.Committed.{is_committed_other}
use Rattle.tablet_records.proofs.collect.others_committed.Given as goal

abbrev pub invariant-loop-txn : goal.invariant-loop-txn
invariant-loop-txn l = record {
  committed : (x : ℕ) → (contains nat_cmp l.txns x || (list_any (is_at (nat_cmp x)) l.txn-iterator && is_committed_other l.own (get nat_cmp l.firsts) x))
      ≡ (list_any (is_at (nat_cmp x)) (keys l.firsts) && is_committed_other l.own (get nat_cmp l.firsts) x);
  ordered : IsOrdered nat_cmp l.txns;
}
