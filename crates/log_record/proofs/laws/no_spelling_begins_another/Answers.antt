use Rattle.log_record.proofs.Records.{no_spelling_begins}
use Rattle.log_record.proofs.laws.no_spelling_begins_another.Goals as goal

pub returns : goal.returns
returns c = no_spelling_begins
