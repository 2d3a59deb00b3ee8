use Rattle.law_clocks.proofs.Runs.{counts_on}
use Rattle.law_clocks.proofs.laws.counts_for_good.Goals as goal

pub returns : goal.returns
returns c = counts_on
