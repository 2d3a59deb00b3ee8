use Rattle.law_endings.proofs.Runs.{ended_never_commits}
use Rattle.law_endings.proofs.endings.ended_never_commits.Goals as goal

pub returns : goal.returns
returns c = ended_never_commits
