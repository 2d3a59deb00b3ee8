use Rattle.doc_value.proofs.ValueOrder.{values_in_order}
use Rattle.doc_value.proofs.laws.bytes_are_in_order.Goals as goal

pub returns : goal.returns
returns c = values_in_order
