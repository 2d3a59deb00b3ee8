use Rattle.law_related_writes.proofs.Related.{commits_read_above}
use Rattle.law_related_writes.proofs.laws.related_commits_read_above.Goals as goal

pub returns : goal.returns
returns c = commits_read_above
