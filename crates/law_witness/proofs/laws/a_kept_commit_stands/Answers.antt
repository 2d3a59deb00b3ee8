use Rattle.law_witness.proofs.Shows.{kept_commit_stands}
use Rattle.law_witness.proofs.laws.a_kept_commit_stands.Goals as goal

pub returns : goal.returns
returns c = kept_commit_stands
