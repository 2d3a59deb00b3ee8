use Rattle.mover_chain.proofs.Counted.{left_is_counted}
use Rattle.mover_chain.proofs.laws.left_is_counted.Goals as goal

pub returns : goal.returns
returns c = left_is_counted
