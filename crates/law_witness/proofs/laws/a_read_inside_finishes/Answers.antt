use Rattle.law_witness.proofs.Shows.{reads_inside}
use Rattle.law_witness.proofs.laws.a_read_inside_finishes.Goals as goal

pub returns : goal.returns
returns c = reads_inside
