use Rattle.law_clocks.proofs.Runs.{listings_reach}
use Rattle.law_clocks.proofs.laws.listings_reach.Goals as goal

pub returns : goal.returns
returns c = listings_reach
