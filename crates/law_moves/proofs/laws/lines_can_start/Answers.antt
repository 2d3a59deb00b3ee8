use Rattle.law_moves.proofs.Enabled.{lines_can_start}
use Rattle.law_moves.proofs.laws.lines_can_start.Goals as goal

pub returns : goal.returns
returns c = lines_can_start
