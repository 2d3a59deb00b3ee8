use Rattle.law_fates.proofs.Runs.{commits_once}
use Rattle.law_fates.proofs.laws.commits_once.Goals as goal

pub returns : goal.returns
returns c = commits_once
