use Rattle.std.proofs.Common.{◌≡◌, Some, take}
use Rattle.txn_data.specs.declared.found.Found.{Found}
use Rattle.conflict_matrix.specs.Decide.{overlap}
use Rattle.conflict_matrix.proofs.Walk.{Ahead}
use Rattle.conflict_matrix.proofs.write.overlap_above.Given as goal

abbrev pub invariant-loop-other : goal.invariant-loop-other
invariant-loop-other l = record {
  ahead : Ahead (λ (f : Found). f.txn) l.fates l.others l.other-index l.firsts;
  greatest : l.greatest ≡ overlap (Some l.read) l.fn.newest (take l.other-index l.others) l.fates;
}
