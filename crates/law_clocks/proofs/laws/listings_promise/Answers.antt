use Rattle.law_clocks.proofs.Runs.{listings_promise}
use Rattle.law_clocks.proofs.laws.listings_promise.Goals as goal

pub returns : goal.returns
returns c = listings_promise
