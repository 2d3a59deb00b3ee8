use Rattle.law_witness.proofs.Shows.{shows_all}
use Rattle.law_witness.proofs.laws.a_run_shows_all.Goals as goal

pub returns : goal.returns
returns c = shows_all
