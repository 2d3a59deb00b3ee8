use Rattle.law_versions.proofs.Runs.{are_commits}
use Rattle.law_versions.proofs.laws.versions_are_commits.Goals as goal

pub returns : goal.returns
returns c = are_commits
