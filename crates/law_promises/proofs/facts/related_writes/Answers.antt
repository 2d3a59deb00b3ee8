use Rattle.law_resolving.proofs.Runs.{fates_begun}
use Rattle.law_places.proofs.Runs.{writes_placed}
use Rattle.law_write_order.proofs.Order.{in_commit_order}
use Rattle.law_related_writes.proofs.Related.{commits_differ, commits_read_above}
use Rattle.law_promises.proofs.facts.related_writes.Goals as goal

pub returns : goal.returns
returns c = record { resolved = fates_begun; placed = writes_placed; ordered = in_commit_order; differ = commits_differ; read = commits_read_above }
