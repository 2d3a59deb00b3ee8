use Rattle.doc_key.proofs.Order.{keys_in_order}
use Rattle.doc_key.proofs.laws.bytes_are_in_order.Goals as goal

pub returns : goal.returns
returns c = keys_in_order
