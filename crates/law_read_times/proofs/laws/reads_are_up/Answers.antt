use Rattle.law_read_times.proofs.Runs.{reads_up}
use Rattle.law_read_times.proofs.laws.reads_are_up.Goals as goal

pub returns : goal.returns
returns c = reads_up
