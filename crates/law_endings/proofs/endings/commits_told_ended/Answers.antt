use Rattle.law_endings.proofs.Told.{commits_told_ended}
use Rattle.law_endings.proofs.endings.commits_told_ended.Goals as goal

pub returns : goal.returns
returns c = commits_told_ended
