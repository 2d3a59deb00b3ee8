use Rattle.law_left.proofs.Plans.{plans_settle}
use Rattle.law_left.proofs.left.plans_settle.Goals as goal

pub returns : goal.returns
returns c = plans_settle
