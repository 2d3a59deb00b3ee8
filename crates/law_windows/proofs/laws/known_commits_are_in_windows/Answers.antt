use Rattle.law_windows.proofs.Known.{known_commits}
use Rattle.law_windows.proofs.laws.known_commits_are_in_windows.Goals as goal

pub returns : goal.returns
returns c = known_commits
