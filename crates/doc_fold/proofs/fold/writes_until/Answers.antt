use Rattle.std.proofs.Common.{arith}
use Rattle.std.proofs.lemmas.Grind.{common_steps}
use Rattle.std.proofs.lemmas.List.{take_all}
use Rattle.txn_types.specs.Committed.{fold_of}
use Rattle.doc_fold.proofs.fold.writes_until.Goals as goal

pub returns : goal.returns
unfolding fold_of
returns c = grind (arith, common_steps, take_all, c.loop-txn.invariant, c.in_ok-committed_until.ensures, c.deref-txn-items.ensures.value)
