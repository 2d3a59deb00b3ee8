use Rattle.law_witness.proofs.Plan.{plan_is_done}
use Rattle.law_witness.proofs.laws.a_plan_is_done.Goals as goal

pub returns : goal.returns
returns c = plan_is_done
