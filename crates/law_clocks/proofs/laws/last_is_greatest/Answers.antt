use Rattle.law_clocks.proofs.Runs.{last_is_greatest}
use Rattle.law_clocks.proofs.laws.last_is_greatest.Goals as goal

pub returns : goal.returns
returns c = last_is_greatest
