use Rattle.law_session_order.proofs.Runs.{commits_above}
use Rattle.law_session_order.proofs.laws.commits_above_writes.Goals as goal

pub returns : goal.returns
returns c = commits_above
