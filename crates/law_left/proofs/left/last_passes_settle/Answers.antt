use Rattle.law_left.proofs.Plans.{last_settle}
use Rattle.law_left.proofs.left.last_passes_settle.Goals as goal

pub returns : goal.returns
returns c = last_settle
