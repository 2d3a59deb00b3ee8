use Rattle.law_versions.proofs.Runs.{are_writes}
use Rattle.law_versions.proofs.laws.intents_are_writes.Goals as goal

pub returns : goal.returns
returns c = are_writes
