use Rattle.law_witness.proofs.Endings.{commit_told_ended}
use Rattle.law_witness.proofs.laws.a_commit_is_told_ended.Goals as goal

pub returns : goal.returns
returns c = commit_told_ended
