use Rattle.law_refusal_witness.proofs.Refused.{shows_stopped_reads}
use Rattle.law_refusal_witness.proofs.laws.reads_are_stopped.Goals as goal

pub returns : goal.returns
returns c = shows_stopped_reads
