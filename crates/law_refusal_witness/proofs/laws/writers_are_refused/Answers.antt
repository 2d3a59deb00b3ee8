use Rattle.law_refusal_witness.proofs.Refused.{shows_meetings}
use Rattle.law_refusal_witness.proofs.laws.writers_are_refused.Goals as goal

pub returns : goal.returns
returns c = shows_meetings
