use Rattle.law_refusals.proofs.Faults.{down_after_fault}
use Rattle.law_refusals.proofs.laws.down_follows_a_fault.Goals as goal

pub returns : goal.returns
returns c = down_after_fault
