use Rattle.law_read_times.proofs.Runs.{writes_as_open}
use Rattle.law_read_times.proofs.laws.writes_read_as_open.Goals as goal

pub returns : goal.returns
returns c = writes_as_open
