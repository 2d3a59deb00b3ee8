use Rattle.law_clocks.proofs.Runs.{times_keep_floors}
use Rattle.law_clocks.proofs.laws.times_keep_floors.Goals as goal

pub returns : goal.returns
returns c = times_keep_floors
