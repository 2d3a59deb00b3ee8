use Rattle.law_endings.proofs.Told.{kept_aborts_leave_none}
use Rattle.law_endings.proofs.endings.kept_aborts_leave_none.Goals as goal

pub returns : goal.returns
returns c = kept_aborts_leave_none
