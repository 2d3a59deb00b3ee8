use Rattle.txn_plan.specs.Rest.{rest, others}
use Rattle.txn_plan.proofs.Quiet.{rest_quiet}
use Rattle.txn_plan.proofs.laws.stays_quiet.Goals as goal

pub returns : goal.returns
unfolding rest
returns c = λ p r e. rest_quiet p.step (others p) p.fates p.stage r e
