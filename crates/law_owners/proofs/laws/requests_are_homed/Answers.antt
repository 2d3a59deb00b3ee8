use Rattle.law_owners.proofs.Runs.{requests_homed}
use Rattle.law_owners.proofs.laws.requests_are_homed.Goals as goal

pub returns : goal.returns
returns c = requests_homed
