use Rattle.law_witness.proofs.Needed.{not_fresh_beyond_skew}
use Rattle.law_witness.proofs.laws.freshness_needs_the_skew.Goals as goal

pub returns : goal.returns
returns c = not_fresh_beyond_skew
