use Rattle.law_refusal_witness.proofs.Refused.{shows_own_refusals}
use Rattle.law_refusal_witness.proofs.laws.a_session_refuses_by_itself.Goals as goal

pub returns : goal.returns
returns c = shows_own_refusals
