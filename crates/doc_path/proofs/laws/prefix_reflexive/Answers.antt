use Rattle.doc_path.proofs.Prefix.{prefix_reflexive}
use Rattle.doc_path.proofs.laws.prefix_reflexive.Goals as goal

pub returns : goal.returns
returns c = prefix_reflexive
