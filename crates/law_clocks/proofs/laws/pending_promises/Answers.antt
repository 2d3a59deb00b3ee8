use Rattle.law_clocks.proofs.Runs.{pending_promises}
use Rattle.law_clocks.proofs.laws.pending_promises.Goals as goal

pub returns : goal.returns
returns c = pending_promises
