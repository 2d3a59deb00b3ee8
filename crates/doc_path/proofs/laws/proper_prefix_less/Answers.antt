use Rattle.doc_path.proofs.Order.{proper_prefix_less}
use Rattle.doc_path.proofs.laws.proper_prefix_less.Goals as goal

pub returns : goal.returns
returns c = proper_prefix_less
