use Rattle.std.proofs.Common.{◌≡◌, drop}
use Rattle.conflict_matrix.specs.Firsts.{not_below}
use Rattle.conflict_matrix.proofs.first_fates.not_below.Given as goal

abbrev pub invariant-loop-i : goal.invariant-loop-i
invariant-loop-i l = not_below l.txn l.fates ≡ not_below l.txn (drop l.i l.fates)
