use Rattle.doc_path.proofs.Prefix.{prefixes_related}
use Rattle.doc_path.proofs.laws.prefixes_related.Goals as goal

pub returns : goal.returns
returns c = prefixes_related
