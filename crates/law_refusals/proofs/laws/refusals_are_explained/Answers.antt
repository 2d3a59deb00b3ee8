use Rattle.law_refusals.proofs.Runs.{are_explained}
use Rattle.law_refusals.proofs.laws.refusals_are_explained.Goals as goal

pub returns : goal.returns
returns c = are_explained
