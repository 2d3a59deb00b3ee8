use Rattle.law_steady_reads.proofs.FinalTimes.{reads_final}
use Rattle.law_steady_reads.proofs.laws.reads_are_final.Goals as goal

pub returns : goal.returns
returns c = reads_final
