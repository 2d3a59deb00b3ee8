use Rattle.log_record.proofs.Records.{record_again}
use Rattle.log_record.proofs.laws.what_is_spelled_is_read.Goals as goal

pub returns : goal.returns
returns c = record_again
