use Rattle.law_folds.proofs.Folds.{reads_show}
use Rattle.law_folds.proofs.laws.reads_show_the_fold.Goals as goal

pub returns : goal.returns
returns c = reads_show
