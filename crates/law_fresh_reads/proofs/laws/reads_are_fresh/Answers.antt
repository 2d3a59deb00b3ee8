use Rattle.law_fresh_reads.proofs.Fresh.{reads_fresh}
use Rattle.law_fresh_reads.proofs.laws.reads_are_fresh.Goals as goal

pub returns : goal.returns
returns c = reads_fresh
