use Rattle.leased_log.proofs.Rise.{times_are_leased}
use Rattle.leased_log.proofs.laws.times_are_leased.Goals as goal

pub returns : goal.returns
returns c = times_are_leased
