use Rattle.conflict_matrix.proofs.Tables.{least_open_is_conflict as law}
use Rattle.conflict_matrix.proofs.laws.least_open_is_conflict.Goals as goal

pub returns : goal.returns
returns c = law
