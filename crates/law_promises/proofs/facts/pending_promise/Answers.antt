use Rattle.law_owners.proofs.Runs.{pending_kept}
use Rattle.law_fates.proofs.Runs.{pending_above}
use Rattle.law_promises.proofs.facts.pending_promise.Goals as goal

pub returns : goal.returns
returns c = record { later = pending_kept; whenever = pending_above }
