use Rattle.std.proofs.Common.{rules}
use Rattle.report_text.proofs.Walks.{same_counts}
use Rattle.report_text.proofs.counts.Counts.with.Goals as goal

pub returns : goal.returns
returns c = same_counts _ _ (search rules) (search rules) (search rules) (search rules) (search rules) (search rules)
