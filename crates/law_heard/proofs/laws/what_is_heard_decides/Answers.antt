use Rattle.law_heard.proofs.Runs.{heard_is_told}
use Rattle.law_heard.proofs.laws.what_is_heard_decides.Goals as goal

pub returns : goal.returns
returns c = heard_is_told
