use Rattle.law_values.proofs.Folded.{versions_leave}
use Rattle.law_values.proofs.laws.versions_leave_the_fold.Goals as goal

pub returns : goal.returns
returns c = versions_leave
