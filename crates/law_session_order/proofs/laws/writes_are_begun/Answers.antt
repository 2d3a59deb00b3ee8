use Rattle.law_session_order.proofs.Runs.{writes_begun}
use Rattle.law_session_order.proofs.laws.writes_are_begun.Goals as goal

pub returns : goal.returns
returns c = writes_begun
