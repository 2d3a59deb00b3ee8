use Rattle.law_committed_writes.proofs.Recorded.{committed_recorded}
use Rattle.law_committed_writes.proofs.laws.provisional_is_recorded.Goals as goal

pub returns : goal.returns
returns c = committed_recorded
