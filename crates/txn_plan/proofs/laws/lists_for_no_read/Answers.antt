use Rattle.txn_plan.specs.Rest.{rest, others}
use Rattle.txn_plan.proofs.Quiet.{rest_lists}
use Rattle.txn_plan.proofs.laws.lists_for_no_read.Goals as goal

pub returns : goal.returns
unfolding rest
returns c = λ p. rest_lists p.step (others p) p.fates p.stage
