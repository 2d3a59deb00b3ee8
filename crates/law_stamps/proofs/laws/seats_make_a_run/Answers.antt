use Rattle.law_stamps.proofs.Seats.{seats_run}
use Rattle.law_stamps.proofs.laws.seats_make_a_run.Goals as goal

pub returns : goal.returns
returns c = seats_run
