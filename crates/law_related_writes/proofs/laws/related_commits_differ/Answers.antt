use Rattle.law_related_writes.proofs.Related.{commits_differ}
use Rattle.law_related_writes.proofs.laws.related_commits_differ.Goals as goal

pub returns : goal.returns
returns c = commits_differ
