use Rattle.law_write_numbers.proofs.Runs.{rise}
use Rattle.law_write_numbers.proofs.laws.numbers_rise.Goals as goal

pub returns : goal.returns
returns c = rise
