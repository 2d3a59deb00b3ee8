use Rattle.law_stamps.proofs.Merging.{are_the_history}
use Rattle.law_stamps.proofs.laws.parts_are_the_history.Goals as goal

pub returns : goal.returns
returns c = are_the_history
