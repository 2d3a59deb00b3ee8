use Rattle.regular_records.proofs.Newest.{newest_is_last_word}
use Rattle.regular_records.proofs.laws.newest_is_last_word.Goals as goal

pub returns : goal.returns
returns c = newest_is_last_word
