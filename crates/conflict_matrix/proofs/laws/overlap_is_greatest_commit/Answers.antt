use Rattle.conflict_matrix.proofs.Tables.{overlap_is_greatest_commit as law}
use Rattle.conflict_matrix.proofs.laws.overlap_is_greatest_commit.Goals as goal

pub returns : goal.returns
returns c = law
