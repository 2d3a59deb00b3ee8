use Rattle.law_visit_rows.proofs.Shown.{visits_show}
use Rattle.law_visit_rows.proofs.laws.visits_show_the_writes.Goals as goal

pub returns : goal.returns
returns c = visits_show
