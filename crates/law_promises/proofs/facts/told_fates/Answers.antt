use Rattle.law_fates.proofs.Runs.{told_committed, told_aborted}
use Rattle.law_told_commits.proofs.Commits.{commit_times, told_there}
use Rattle.law_promises.proofs.facts.told_fates.Goals as goal

pub returns : goal.returns
returns c = record { committed = told_committed; aborted = told_aborted; there = told_there; times = commit_times }
