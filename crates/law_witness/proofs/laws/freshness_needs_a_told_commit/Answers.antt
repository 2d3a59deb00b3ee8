use Rattle.law_witness.proofs.Needed.{misses_later_commit}
use Rattle.law_witness.proofs.laws.freshness_needs_a_told_commit.Goals as goal

pub returns : goal.returns
returns c = misses_later_commit
