use Rattle.law_versions.proofs.Runs.{are_unique}
use Rattle.law_versions.proofs.laws.versions_are_unique.Goals as goal

pub returns : goal.returns
returns c = are_unique
