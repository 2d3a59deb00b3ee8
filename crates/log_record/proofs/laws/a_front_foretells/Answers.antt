use Rattle.log_record.proofs.Records.{record_foretells}
use Rattle.log_record.proofs.laws.a_front_foretells.Goals as goal

pub returns : goal.returns
returns c = record_foretells
