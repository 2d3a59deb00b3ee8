use Rattle.log_record.proofs.Short.{spelling_short}
use Rattle.log_record.proofs.laws.spellings_are_short.Goals as goal

pub returns : goal.returns
returns c = spelling_short
