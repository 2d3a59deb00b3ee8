use Rattle.law_fates.proofs.Runs.{pending_above}
use Rattle.law_fates.proofs.laws.pending_commits_above.Goals as goal

pub returns : goal.returns
returns c = pending_above
