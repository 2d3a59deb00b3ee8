use Rattle.law_apart.proofs.Rising.{related_apart}
use Rattle.law_apart.proofs.laws.related_transactions_are_apart.Goals as goal

pub returns : goal.returns
returns c = related_apart
