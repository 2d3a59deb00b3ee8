use Rattle.law_forgetting.proofs.Forgotten.{told_absent}
use Rattle.law_forgetting.proofs.laws.told_absent_is_forgotten.Goals as goal

pub returns : goal.returns
returns c = told_absent
