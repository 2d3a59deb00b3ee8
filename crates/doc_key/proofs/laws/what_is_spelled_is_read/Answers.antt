use Rattle.doc_key.proofs.Keys.{key_again}
use Rattle.doc_key.proofs.laws.what_is_spelled_is_read.Goals as goal

pub returns : goal.returns
returns c = key_again
