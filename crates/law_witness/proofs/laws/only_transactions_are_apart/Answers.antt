use Rattle.law_witness.proofs.Needed.{single_not_apart}
use Rattle.law_witness.proofs.laws.only_transactions_are_apart.Goals as goal

pub returns : goal.returns
returns c = single_not_apart
