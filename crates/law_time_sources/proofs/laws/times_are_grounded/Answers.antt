use Rattle.law_time_sources.proofs.Runs.{times_grounded}
use Rattle.law_time_sources.proofs.laws.times_are_grounded.Goals as goal

pub returns : goal.returns
returns c = times_grounded
