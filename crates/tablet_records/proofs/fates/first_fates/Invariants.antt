use Rattle.std.proofs.Common.{◌≡◌, ℕ, drop}
use Rattle.std.specs.BTreeMap.{get}
use Rattle.std.specs.Ordering.{nat_cmp}
use Rattle.txn_types.specs.Lists.{or_else}
use Rattle.txn_types.specs.Tablet.{first_fate as fate_in}
use Rattle.tablet_records.proofs.fates.first_fates.Given as goal

abbrev pub invariant-loop-of : goal.invariant-loop-of
invariant-loop-of l = (x : ℕ) → or_else (get nat_cmp l.firsts x) (fate_in (drop l.of-index l.fates) x) ≡ fate_in l.fates x
