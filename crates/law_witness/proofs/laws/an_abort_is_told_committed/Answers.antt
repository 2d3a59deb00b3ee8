use Rattle.law_witness.proofs.Endings.{abort_told_committed}
use Rattle.law_witness.proofs.laws.an_abort_is_told_committed.Goals as goal

pub returns : goal.returns
returns c = abort_told_committed
