use Rattle.law_machines.proofs.Owns.{serves_own}
use Rattle.law_machines.proofs.laws.each_by_its_table.Goals as goal

pub returns : goal.returns
returns c = λ config h a run. serves_own config a h run.1
