use Rattle.doc_value.proofs.Fronts.{value_foretells}
use Rattle.doc_value.proofs.laws.a_front_foretells.Goals as goal

pub returns : goal.returns
returns c = value_foretells
