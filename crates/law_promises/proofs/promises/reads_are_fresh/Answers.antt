use Rattle.law_fresh_reads.proofs.Fresh.{reads_fresh}
use Rattle.law_promises.proofs.promises.reads_are_fresh.Goals as goal

pub returns : goal.returns
returns c = reads_fresh
