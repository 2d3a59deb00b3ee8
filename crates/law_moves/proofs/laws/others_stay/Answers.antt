use Rattle.law_moves.proofs.Leaving.{others_stay}
use Rattle.law_moves.proofs.laws.others_stay.Goals as goal

pub returns : goal.returns
returns c = others_stay
