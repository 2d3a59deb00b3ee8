use Rattle.law_refusal_witness.proofs.Clocks.{shows_full_counter}
use Rattle.law_refusal_witness.proofs.laws.a_counter_ends.Goals as goal

pub returns : goal.returns
returns c = shows_full_counter
