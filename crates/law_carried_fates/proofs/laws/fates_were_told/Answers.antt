use Rattle.law_carried_fates.proofs.Runs.{fates_told}
use Rattle.law_carried_fates.proofs.laws.fates_were_told.Goals as goal

pub returns : goal.returns
returns c = fates_told
