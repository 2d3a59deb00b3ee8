use Rattle.law_refusal_witness.proofs.Faults.{shows_refused_closing}
use Rattle.law_refusal_witness.proofs.laws.a_closing_abort_is_refused.Goals as goal

pub returns : goal.returns
returns c = shows_refused_closing
