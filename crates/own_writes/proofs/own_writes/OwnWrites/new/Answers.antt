use Rattle.std.proofs.Common.{arith}
use Rattle.std.proofs.lemmas.Grind.{common_steps}
use Rattle.txn_types.specs.Session.{tablets_used}
use Rattle.own_writes.proofs.Index.{none_indexed}
use Rattle.own_writes.proofs.own_writes.OwnWrites.new.Goals as goal

pub invariant_of-result-clause-in_order : goal.invariant_of-result-clause-in_order
unfolding tablets_used
invariant_of-result-clause-in_order c = grind (arith, common_steps, c.new.ensures.items, c.new-2.ensures)

pub invariant_of-result-clause-held : goal.invariant_of-result-clause-held
invariant_of-result-clause-held c = none_indexed c.new-3.result c.new.result.items c.new-3.ensures
