use Rattle.law_refusal_witness.proofs.Faults.{shows_kept_write}
use Rattle.law_refusal_witness.proofs.laws.a_kept_write_closes.Goals as goal

pub returns : goal.returns
returns c = shows_kept_write
