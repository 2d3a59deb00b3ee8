use Rattle.law_owners.proofs.Runs.{pending_kept}
use Rattle.law_owners.proofs.laws.pending_is_kept.Goals as goal

pub returns : goal.returns
returns c = pending_kept
