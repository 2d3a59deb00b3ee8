use Rattle.law_parts.proofs.RunsOf.{one_more}
use Rattle.law_parts.proofs.laws.one_more_is_a_run.Goals as goal

pub returns : goal.returns
returns c = one_more
