use Rattle.law_witness.proofs.Shows.{reads_two_tablets}
use Rattle.law_witness.proofs.laws.a_read_over_two_tablets_restarts.Goals as goal

pub returns : goal.returns
returns c = reads_two_tablets
