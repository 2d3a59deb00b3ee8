use Rattle.law_parts.proofs.RunsOf.{run_parts}
use Rattle.law_parts.proofs.laws.runs_have_parts.Goals as goal

pub returns : goal.returns
returns c = run_parts
