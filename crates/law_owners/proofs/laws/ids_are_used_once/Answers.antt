use Rattle.law_owners.proofs.Runs.{ids_once}
use Rattle.law_owners.proofs.laws.ids_are_used_once.Goals as goal

pub returns : goal.returns
returns c = ids_once
