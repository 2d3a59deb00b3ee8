use Rattle.regular_records.proofs.Several.{met_of_both}
use Rattle.regular_records.proofs.laws.met_of_both.Goals as goal

pub returns : goal.returns
returns c = met_of_both
