use Rattle.law_witness.proofs.Shows.{two_commit}
use Rattle.law_witness.proofs.laws.two_writers_commit.Goals as goal

pub returns : goal.returns
returns c = two_commit
