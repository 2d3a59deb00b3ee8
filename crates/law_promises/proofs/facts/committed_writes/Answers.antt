use Rattle.law_intents.proofs.Cleared.{applied_stays}
use Rattle.law_forgetting.proofs.Forgotten.{told_absent}
use Rattle.law_committed_writes.proofs.Recorded.{committed_recorded}
use Rattle.law_versions.proofs.Runs.{are_commits, are_writes, are_there, stay, are_unique}
use Rattle.law_promises.proofs.facts.committed_writes.Goals as goal

pub returns : goal.returns
returns c = record { there = are_there; versions = are_commits; intents = are_writes; stay = stay; unique = are_unique; recorded = committed_recorded; applied = applied_stays; forgotten = told_absent }
