use Rattle.law_carried_fates.proofs.Runs.{applies_committed}
use Rattle.law_carried_fates.proofs.laws.applies_are_of_commits.Goals as goal

pub returns : goal.returns
returns c = applies_committed
