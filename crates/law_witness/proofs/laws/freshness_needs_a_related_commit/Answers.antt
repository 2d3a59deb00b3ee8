use Rattle.law_witness.proofs.Needed.{misses_unrelated_commit}
use Rattle.law_witness.proofs.laws.freshness_needs_a_related_commit.Goals as goal

pub returns : goal.returns
returns c = misses_unrelated_commit
