use Rattle.doc_key.proofs.Keys.{key_takes}
use Rattle.doc_key.proofs.laws.what_is_read_is_spelled.Goals as goal

pub returns : goal.returns
returns c =
    λ whole bytes key rest fits e. let t = key_takes whole bytes key rest fits e in (t.in_range, t.has, t.parts)
