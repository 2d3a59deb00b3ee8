use Rattle.std.proofs.Common.{arith}
use Rattle.std.proofs.lemmas.Grind.{common_steps}
use Rattle.std.proofs.lemmas.List.{take_all}
use Rattle.txn_types.specs.Writes.{beneath}
use Rattle.doc_fold.proofs.fold.rows_beneath.Goals as goal

pub returns : goal.returns
unfolding beneath
returns c = grind (arith, common_steps, take_all, c.loop-lower.invariant, c.in_ok-paths.ensures, c.deref-lower-items.ensures.value)
