use Rattle.law_told_commits.proofs.Commits.{told_there}
use Rattle.law_told_commits.proofs.laws.told_commits_are_there.Goals as goal

pub returns : goal.returns
returns c = told_there
