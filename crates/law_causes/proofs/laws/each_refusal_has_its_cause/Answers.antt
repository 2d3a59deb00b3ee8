use Rattle.law_causes.proofs.Runs.{causes}
use Rattle.law_causes.proofs.laws.each_refusal_has_its_cause.Goals as goal

pub returns : goal.returns
returns c = causes
