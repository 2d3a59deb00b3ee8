use Rattle.law_leaves.proofs.Runs.{decide}
use Rattle.law_leaves.proofs.laws.conditions_decide.Goals as goal

pub returns : goal.returns
returns c = decide
