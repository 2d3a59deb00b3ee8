use Rattle.sub_doc_key.proofs.Extends.{versioned_foretells}
use Rattle.sub_doc_key.proofs.laws.a_front_foretells.Goals as goal

pub returns : goal.returns
returns c = versioned_foretells
