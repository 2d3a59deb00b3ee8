use Rattle.log_record.proofs.Records.{record_takes}
use Rattle.log_record.proofs.laws.what_is_read_is_spelled.Goals as goal

pub returns : goal.returns
returns c =
    λ whole bytes r rest fits e. let t = record_takes whole bytes r rest fits e in (t.in_range, t.has, t.parts)
