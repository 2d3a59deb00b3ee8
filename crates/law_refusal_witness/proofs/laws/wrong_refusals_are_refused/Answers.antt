use Rattle.law_refusal_witness.proofs.WrongRefusals.{wrong_refusals_refused}
use Rattle.law_refusal_witness.proofs.laws.wrong_refusals_are_refused.Goals as goal

pub returns : goal.returns
returns c = wrong_refusals_refused
