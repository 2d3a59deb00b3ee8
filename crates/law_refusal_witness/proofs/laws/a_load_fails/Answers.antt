use Rattle.law_refusal_witness.proofs.Refused.{shows_failed_load}
use Rattle.law_refusal_witness.proofs.laws.a_load_fails.Goals as goal

pub returns : goal.returns
returns c = shows_failed_load
