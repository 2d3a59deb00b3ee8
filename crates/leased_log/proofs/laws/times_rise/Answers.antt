use Rattle.leased_log.proofs.Rise.{times_rise}
use Rattle.leased_log.proofs.laws.times_rise.Goals as goal

pub returns : goal.returns
returns c = times_rise
