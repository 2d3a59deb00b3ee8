use Rattle.law_local_limits.proofs.Runs.{listings_limits}
use Rattle.law_local_limits.proofs.laws.listings_promise_their_limits.Goals as goal

pub returns : goal.returns
returns c = listings_limits
