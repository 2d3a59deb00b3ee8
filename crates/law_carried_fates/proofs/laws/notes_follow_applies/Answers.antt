use Rattle.law_carried_fates.proofs.Runs.{notes_applied}
use Rattle.law_carried_fates.proofs.laws.notes_follow_applies.Goals as goal

pub returns : goal.returns
returns c = notes_applied
