use Rattle.law_write_numbers.proofs.Runs.{keeps}
use Rattle.law_write_numbers.proofs.laws.open_keeps_its_writes.Goals as goal

pub returns : goal.returns
returns c = keeps
