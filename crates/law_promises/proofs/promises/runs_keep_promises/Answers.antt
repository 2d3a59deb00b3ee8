use Rattle.law_promises.proofs.KeepsPromises.{promises_kept}
use Rattle.law_promises.proofs.promises.runs_keep_promises.Goals as goal

pub returns : goal.returns
returns c = promises_kept
