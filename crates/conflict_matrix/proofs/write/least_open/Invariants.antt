use Rattle.std.proofs.Common.{◌≡◌, take}
use Rattle.txn_data.specs.declared.found.Found.{Found}
use Rattle.conflict_matrix.specs.Decide.{least_open as least_in}
use Rattle.conflict_matrix.proofs.Walk.{Ahead}
use Rattle.conflict_matrix.proofs.write.least_open.Given as goal

abbrev pub invariant-loop-other : goal.invariant-loop-other
invariant-loop-other l = record {
  ahead : Ahead (λ (f : Found). f.txn) l.fates l.others l.other-index l.firsts;
  least : l.least ≡ least_in (take l.other-index l.others) l.fates;
}
