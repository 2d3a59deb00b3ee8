use Rattle.law_resolving.proofs.Runs.{fates_begun}
use Rattle.law_resolving.proofs.laws.fates_are_of_begun.Goals as goal

pub returns : goal.returns
returns c = fates_begun
