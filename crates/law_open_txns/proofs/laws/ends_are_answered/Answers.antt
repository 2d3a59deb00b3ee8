use Rattle.law_open_txns.proofs.Runs.{ends_answered}
use Rattle.law_open_txns.proofs.laws.ends_are_answered.Goals as goal

pub returns : goal.returns
returns c = ends_answered
