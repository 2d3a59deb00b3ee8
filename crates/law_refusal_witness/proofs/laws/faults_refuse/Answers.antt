use Rattle.law_refusal_witness.proofs.Refused.{shows_faults}
use Rattle.law_refusal_witness.proofs.laws.faults_refuse.Goals as goal

pub returns : goal.returns
returns c = shows_faults
