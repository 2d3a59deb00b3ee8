use Rattle.doc_path.proofs.Order.{order_exact}
use Rattle.doc_path.proofs.laws.order_exact.Goals as goal

pub returns : goal.returns
returns c = order_exact
