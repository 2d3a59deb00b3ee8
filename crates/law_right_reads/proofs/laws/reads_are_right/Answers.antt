use Rattle.law_right_reads.proofs.Right.{reads_right}
use Rattle.law_right_reads.proofs.laws.reads_are_right.Goals as goal

pub returns : goal.returns
returns c = reads_right
