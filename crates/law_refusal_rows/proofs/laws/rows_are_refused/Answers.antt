use Rattle.law_refusal_rows.proofs.Runs.{are_refused}
use Rattle.law_refusal_rows.proofs.laws.rows_are_refused.Goals as goal

pub returns : goal.returns
returns c = are_refused
