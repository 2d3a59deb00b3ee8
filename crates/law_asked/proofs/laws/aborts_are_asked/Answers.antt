use Rattle.law_asked.proofs.Runs.{aborts_asked}
use Rattle.law_asked.proofs.laws.aborts_are_asked.Goals as goal

pub returns : goal.returns
returns c = aborts_asked
