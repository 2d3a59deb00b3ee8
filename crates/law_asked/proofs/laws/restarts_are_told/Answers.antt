use Rattle.law_asked.proofs.Runs.{restarts}
use Rattle.law_asked.proofs.laws.restarts_are_told.Goals as goal

pub returns : goal.returns
returns c = restarts
