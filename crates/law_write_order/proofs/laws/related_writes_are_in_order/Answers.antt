use Rattle.law_write_order.proofs.Order.{in_commit_order}
use Rattle.law_write_order.proofs.laws.related_writes_are_in_order.Goals as goal

pub returns : goal.returns
returns c = in_commit_order
