use Rattle.law_witness.proofs.Endings.{wrong_tells_refused}
use Rattle.law_witness.proofs.laws.wrong_tells_are_refused.Goals as goal

pub returns : goal.returns
returns c = wrong_tells_refused
