use Rattle.law_versions.proofs.Runs.{are_there}
use Rattle.law_versions.proofs.laws.commits_are_there.Goals as goal

pub returns : goal.returns
returns c = are_there
