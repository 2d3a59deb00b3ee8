use Rattle.doc_key.proofs.Extends.{key_foretells}
use Rattle.doc_key.proofs.laws.a_front_foretells.Goals as goal

pub returns : goal.returns
returns c = key_foretells
