use Rattle.doc_value.proofs.Values.{value_again}
use Rattle.doc_value.proofs.laws.what_is_spelled_is_read.Goals as goal

pub returns : goal.returns
returns c = value_again
