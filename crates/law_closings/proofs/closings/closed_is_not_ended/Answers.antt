use Rattle.law_closings.proofs.Keeping.{closed_not_ended}
use Rattle.law_closings.proofs.closings.closed_is_not_ended.Goals as goal

pub returns : goal.returns
returns c = closed_not_ended
