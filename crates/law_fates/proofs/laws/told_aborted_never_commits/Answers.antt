use Rattle.law_fates.proofs.Runs.{told_aborted}
use Rattle.law_fates.proofs.laws.told_aborted_never_commits.Goals as goal

pub returns : goal.returns
returns c = told_aborted
