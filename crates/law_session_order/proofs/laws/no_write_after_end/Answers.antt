use Rattle.law_session_order.proofs.Runs.{no_write_after}
use Rattle.law_session_order.proofs.laws.no_write_after_end.Goals as goal

pub returns : goal.returns
returns c = no_write_after
