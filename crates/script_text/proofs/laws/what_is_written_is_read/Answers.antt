use Rattle.script_text.proofs.WrittenScript.{written_again}
use Rattle.script_text.proofs.laws.what_is_written_is_read.Goals as goal

pub returns : goal.returns
returns c = λ config plan spelled said bytes few. written_again config plan spelled said bytes (c.what_is_written_is_read.ensures config spelled) few
