use Rattle.law_moves.proofs.Over.{last_passes_can_begin}
use Rattle.law_moves.proofs.laws.last_passes_can_begin.Goals as goal

pub returns : goal.returns
returns c = last_passes_can_begin
