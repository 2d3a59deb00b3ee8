use Rattle.law_leaves.proofs.Runs.{leaves}
use Rattle.law_leaves.proofs.laws.refusals_leave.Goals as goal

pub returns : goal.returns
returns c = leaves
