use Rattle.doc_path.proofs.Prefix.{prefix_transitive}
use Rattle.doc_path.proofs.laws.prefix_transitive.Goals as goal

pub returns : goal.returns
returns c = prefix_transitive
