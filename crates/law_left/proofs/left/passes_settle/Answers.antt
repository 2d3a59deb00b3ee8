use Rattle.law_left.proofs.Settles.{passes_settle}
use Rattle.law_left.proofs.left.passes_settle.Goals as goal

pub returns : goal.returns
returns c = passes_settle
