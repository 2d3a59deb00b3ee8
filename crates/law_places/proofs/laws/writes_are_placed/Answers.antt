use Rattle.law_places.proofs.Runs.{writes_placed}
use Rattle.law_places.proofs.laws.writes_are_placed.Goals as goal

pub returns : goal.returns
returns c = writes_placed
