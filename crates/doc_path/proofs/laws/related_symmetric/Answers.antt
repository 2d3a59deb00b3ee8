use Rattle.doc_path.proofs.Prefix.{related_symmetric}
use Rattle.doc_path.proofs.laws.related_symmetric.Goals as goal

pub returns : goal.returns
returns c = related_symmetric
