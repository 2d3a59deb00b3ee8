use Rattle.law_readings.proofs.Sources.{times_from}
use Rattle.law_readings.proofs.laws.times_come_from.Goals as goal

pub returns : goal.returns
returns c = times_from
