use Rattle.law_refusal_witness.proofs.Faults.{shows_lost_write}
use Rattle.law_refusal_witness.proofs.laws.a_lost_write_closes.Goals as goal

pub returns : goal.returns
returns c = shows_lost_write
