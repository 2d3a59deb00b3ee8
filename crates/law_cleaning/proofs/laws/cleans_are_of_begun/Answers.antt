use Rattle.law_cleaning.proofs.Runs.{cleans_begun}
use Rattle.law_cleaning.proofs.laws.cleans_are_of_begun.Goals as goal

pub returns : goal.returns
returns c = cleans_begun
