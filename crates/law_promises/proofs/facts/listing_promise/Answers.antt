use Rattle.law_clocks.proofs.Runs.{listings_reach}
use Rattle.law_local_limits.proofs.Runs.{listings_limits}
use Rattle.law_promises.proofs.facts.listing_promise.Goals as goal

pub returns : goal.returns
returns c = record { reached = listings_reach; later = listings_limits }
