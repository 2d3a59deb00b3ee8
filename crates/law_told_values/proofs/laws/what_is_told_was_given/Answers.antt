use Rattle.law_told_values.proofs.Runs.{told_given}
use Rattle.law_told_values.proofs.laws.what_is_told_was_given.Goals as goal

pub returns : goal.returns
returns c = told_given
