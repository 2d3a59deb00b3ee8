use Rattle.law_refusal_witness.proofs.Refused.{shows_coming_between}
use Rattle.law_refusal_witness.proofs.laws.a_write_comes_between.Goals as goal

pub returns : goal.returns
returns c = shows_coming_between
