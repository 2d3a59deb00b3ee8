use Rattle.law_session_order.proofs.Runs.{commits_cover}
use Rattle.law_session_order.proofs.laws.commits_cover.Goals as goal

pub returns : goal.returns
returns c = commits_cover
