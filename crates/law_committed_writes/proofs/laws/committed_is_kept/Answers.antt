use Rattle.law_committed_writes.proofs.Kept.{committed_kept}
use Rattle.law_committed_writes.proofs.laws.committed_is_kept.Goals as goal

pub returns : goal.returns
returns c = committed_kept
