use Rattle.law_carried_fates.proofs.Runs.{cleans_ended}
use Rattle.law_carried_fates.proofs.laws.cleans_are_of_ended.Goals as goal

pub returns : goal.returns
returns c = cleans_ended
