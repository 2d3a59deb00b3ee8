use Rattle.law_fates.proofs.Runs.{told_committed}
use Rattle.law_fates.proofs.laws.told_committed_is_committed.Goals as goal

pub returns : goal.returns
returns c = told_committed
