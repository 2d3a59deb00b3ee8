use Rattle.law_stamps.proofs.Merging.{may_be_merged}
use Rattle.law_stamps.proofs.laws.parts_may_be_merged.Goals as goal

pub returns : goal.returns
returns c = may_be_merged
