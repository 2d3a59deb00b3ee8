use Rattle.law_session_order.proofs.Runs.{writes_begun, no_write_after, commits_cover}
use Rattle.law_promises.proofs.facts.session_order.Goals as goal

pub returns : goal.returns
returns c = record { begun = writes_begun; ended = no_write_after; covered = commits_cover }
