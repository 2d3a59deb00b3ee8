use Rattle.law_own_readings.proofs.Origins.{origins_are_shown}
use Rattle.law_own_readings.proofs.laws.origins_show.Goals as goal

pub returns : goal.returns
returns c = origins_are_shown
