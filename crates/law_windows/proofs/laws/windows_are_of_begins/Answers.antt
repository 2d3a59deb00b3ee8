use Rattle.law_windows.proofs.Windows.{windows_of_begins}
use Rattle.law_windows.proofs.laws.windows_are_of_begins.Goals as goal

pub returns : goal.returns
returns c = windows_of_begins
