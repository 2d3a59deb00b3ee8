use Rattle.law_right_reads.proofs.Above.{commits_above_reads}
use Rattle.law_right_reads.proofs.laws.commits_are_above_reads.Goals as goal

pub returns : goal.returns
returns c = commits_above_reads
