use Rattle.law_fates.proofs.Runs.{commits_once}
use Rattle.law_session_order.proofs.Runs.{commits_above}
use Rattle.law_commit_times.proofs.Commits.{commits_above_times}
use Rattle.law_promises.proofs.facts.commit_times.Goals as goal

pub returns : goal.returns
returns c = record { once = commits_once; above = commits_above; above_reads = commits_above_times }
