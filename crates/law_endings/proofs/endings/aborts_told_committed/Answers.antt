use Rattle.law_endings.proofs.Told.{aborts_told_committed}
use Rattle.law_endings.proofs.endings.aborts_told_committed.Goals as goal

pub returns : goal.returns
returns c = aborts_told_committed
