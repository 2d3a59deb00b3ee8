use Rattle.doc_path.proofs.Order.{order_antisymmetric}
use Rattle.doc_path.proofs.laws.order_antisymmetric.Goals as goal

pub returns : goal.returns
returns c = order_antisymmetric
