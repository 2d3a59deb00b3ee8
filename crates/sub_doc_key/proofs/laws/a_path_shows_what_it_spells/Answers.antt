use Rattle.sub_doc_key.proofs.Texts.{shown_is}
use Rattle.sub_doc_key.proofs.laws.a_path_shows_what_it_spells.Goals as goal

pub returns : goal.returns
returns c = shown_is
