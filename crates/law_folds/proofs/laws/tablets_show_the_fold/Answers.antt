use Rattle.law_folds.proofs.Folds.{tablets_show}
use Rattle.law_folds.proofs.laws.tablets_show_the_fold.Goals as goal

pub returns : goal.returns
returns c = tablets_show
