use Rattle.doc_path.proofs.Order.{order_transitive}
use Rattle.doc_path.proofs.laws.order_transitive.Goals as goal

pub returns : goal.returns
returns c = order_transitive
