use Rattle.law_witness.proofs.Shows.{leaves_one}
use Rattle.law_witness.proofs.laws.a_transaction_is_left.Goals as goal

pub returns : goal.returns
returns c = leaves_one
