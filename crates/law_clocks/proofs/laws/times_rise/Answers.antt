use Rattle.law_clocks.proofs.Runs.{times_rise}
use Rattle.law_clocks.proofs.laws.times_rise.Goals as goal

pub returns : goal.returns
returns c = times_rise
