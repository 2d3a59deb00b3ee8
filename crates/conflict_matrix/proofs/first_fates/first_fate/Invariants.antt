use Rattle.std.proofs.Common.{◌≡◌, drop}
use Rattle.txn_types.specs.Tablet.{first_fate as fate_in}
use Rattle.conflict_matrix.proofs.first_fates.first_fate.Given as goal

abbrev pub invariant-loop-of : goal.invariant-loop-of
invariant-loop-of l = fate_in l.fates l.txn ≡ fate_in (drop l.of-index l.fates) l.txn
