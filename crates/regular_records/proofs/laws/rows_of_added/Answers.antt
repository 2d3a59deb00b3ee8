use Rattle.regular_records.proofs.Joined.{rows_of_added}
use Rattle.regular_records.proofs.laws.rows_of_added.Goals as goal

pub returns : goal.returns
returns c = rows_of_added
