use Rattle.law_visits.proofs.Visited.{reads_visit}
use Rattle.law_visits.proofs.laws.reads_visit_their_tablets.Goals as goal

pub returns : goal.returns
returns c = reads_visit
