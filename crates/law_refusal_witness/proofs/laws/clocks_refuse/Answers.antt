use Rattle.law_refusal_witness.proofs.Refused.{shows_clocks}
use Rattle.law_refusal_witness.proofs.laws.clocks_refuse.Goals as goal

pub returns : goal.returns
returns c = shows_clocks
