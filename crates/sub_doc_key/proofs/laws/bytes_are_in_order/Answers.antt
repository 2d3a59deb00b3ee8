use Rattle.sub_doc_key.proofs.Order.{keys_in_order, lesser_comes_first}
use Rattle.sub_doc_key.proofs.laws.bytes_are_in_order.Goals as goal

pub returns-clause-exact : goal.returns-clause-exact
returns-clause-exact c = keys_in_order

pub returns-clause-lesser : goal.returns-clause-lesser
returns-clause-lesser c = lesser_comes_first
