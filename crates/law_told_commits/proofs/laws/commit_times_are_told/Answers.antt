use Rattle.law_told_commits.proofs.Commits.{commit_times}
use Rattle.law_told_commits.proofs.laws.commit_times_are_told.Goals as goal

pub returns : goal.returns
returns c = commit_times
