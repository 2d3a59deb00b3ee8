use Rattle.regular_records.proofs.Newest.{newest_of_both}
use Rattle.regular_records.proofs.laws.newest_of_both.Goals as goal

pub returns : goal.returns
returns c = newest_of_both
