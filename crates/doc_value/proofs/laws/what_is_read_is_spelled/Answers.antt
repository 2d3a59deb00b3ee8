use Rattle.doc_value.proofs.Values.{value_takes}
use Rattle.doc_value.proofs.laws.what_is_read_is_spelled.Goals as goal

pub returns : goal.returns
returns c =
    λ whole bytes value rest fits e. let t = value_takes whole bytes value rest fits e in (t.in_range, t.has, t.parts)
