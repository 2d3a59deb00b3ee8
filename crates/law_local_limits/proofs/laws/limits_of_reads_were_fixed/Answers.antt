use Rattle.law_local_limits.proofs.Origins.{limits_of_reads}
use Rattle.law_local_limits.proofs.laws.limits_of_reads_were_fixed.Goals as goal

pub returns : goal.returns
returns c = limits_of_reads
