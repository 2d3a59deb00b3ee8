use Rattle.law_windows.proofs.Known.{known_writes}
use Rattle.law_windows.proofs.laws.known_writes_are_in_windows.Goals as goal

pub returns : goal.returns
returns c = known_writes
