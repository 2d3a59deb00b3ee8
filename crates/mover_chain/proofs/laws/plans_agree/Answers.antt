use Rattle.mover_chain.proofs.Places.{plans_agree}
use Rattle.mover_chain.proofs.laws.plans_agree.Goals as goal

pub returns : goal.returns
returns c = plans_agree
