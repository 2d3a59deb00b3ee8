use Rattle.law_parts.proofs.RunsOf.{parts_run}
use Rattle.law_parts.proofs.laws.parts_make_a_run.Goals as goal

pub returns : goal.returns
returns c = parts_run
