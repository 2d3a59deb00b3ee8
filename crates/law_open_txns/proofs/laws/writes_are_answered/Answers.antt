use Rattle.law_open_txns.proofs.Runs.{writes_answered}
use Rattle.law_open_txns.proofs.laws.writes_are_answered.Goals as goal

pub returns : goal.returns
returns c = writes_answered
