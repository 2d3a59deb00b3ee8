use Rattle.law_steady_reads.proofs.Steady.{reads_steady}
use Rattle.law_promises.proofs.promises.reads_are_steady.Goals as goal

pub returns : goal.returns
returns c = reads_steady
