use Rattle.law_refusals.proofs.Faults.{are_told}
use Rattle.law_refusals.proofs.laws.faults_are_told.Goals as goal

pub returns : goal.returns
returns c = are_told
