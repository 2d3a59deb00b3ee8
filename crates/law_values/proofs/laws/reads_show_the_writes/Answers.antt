use Rattle.law_values.proofs.Tablets.{reads_show}
use Rattle.law_values.proofs.laws.reads_show_the_writes.Goals as goal

pub returns : goal.returns
returns c = reads_show
