use Rattle.law_versions.proofs.Runs.{stay}
use Rattle.law_versions.proofs.laws.versions_stay.Goals as goal

pub returns : goal.returns
returns c = stay
