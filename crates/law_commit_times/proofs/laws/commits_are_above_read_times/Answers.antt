use Rattle.law_commit_times.proofs.Commits.{commits_above_times}
use Rattle.law_commit_times.proofs.laws.commits_are_above_read_times.Goals as goal

pub returns : goal.returns
returns c = commits_above_times
