use Rattle.sub_doc_key.proofs.Versions.{versioned_again}
use Rattle.sub_doc_key.proofs.laws.what_is_spelled_is_read.Goals as goal

pub returns : goal.returns
returns c = versioned_again
