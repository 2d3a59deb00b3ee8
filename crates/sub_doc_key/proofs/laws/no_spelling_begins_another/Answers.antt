use Rattle.sub_doc_key.proofs.Versions.{no_spelling_begins}
use Rattle.sub_doc_key.proofs.laws.no_spelling_begins_another.Goals as goal

pub returns : goal.returns
returns c = no_spelling_begins
