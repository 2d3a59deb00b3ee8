use Rattle.law_stamps.proofs.Merging.{merged_run}
use Rattle.law_stamps.proofs.laws.merged_parts_make_a_run.Goals as goal

pub returns : goal.returns
returns c = merged_run
