use Rattle.doc_path.proofs.Prefix.{prefix_begins}
use Rattle.doc_path.proofs.laws.prefix_begins.Goals as goal

pub returns : goal.returns
returns c = prefix_begins
