use Rattle.load_maker.specs.Made.{draws_from}
use Rattle.load_maker.proofs.draws.Draws.of.Goals as goal

pub returns-clause-draws : goal.returns-clause-draws
unfolding draws_from
returns-clause-draws c = cc
