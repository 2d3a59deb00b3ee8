use Rattle.sub_doc_key.proofs.Versions.{versioned_takes}
use Rattle.sub_doc_key.proofs.laws.what_is_read_is_spelled.Goals as goal

pub returns : goal.returns
returns c = λ whole bytes key rest fits e. let t = versioned_takes whole bytes (key, rest) fits e in (t.has, t.parts)
