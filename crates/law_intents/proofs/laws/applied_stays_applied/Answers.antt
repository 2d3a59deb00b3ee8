use Rattle.law_intents.proofs.Cleared.{applied_stays}
use Rattle.law_intents.proofs.laws.applied_stays_applied.Goals as goal

pub returns : goal.returns
returns c = applied_stays
