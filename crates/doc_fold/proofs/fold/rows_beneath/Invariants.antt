use Rattle.std.proofs.Common.{◌≡◌, take}
use Rattle.std.specs.Prelude.{flat_map}
use Rattle.txn_types.specs.Writes.{value, row_with}
use Rattle.doc_fold.proofs.fold.rows_beneath.Given as goal

abbrev pub invariant-loop-lower : goal.invariant-loop-lower
invariant-loop-lower l = l.rows ≡ flat_map (λ q. row_with q (value l.writes q)) (take l.lower-index l.lower-items)
