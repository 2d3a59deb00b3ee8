use Rattle.law_schedules.proofs.Doing.{courses_do_all}
use Rattle.law_schedules.proofs.laws.courses_do_all.Goals as goal

pub returns : goal.returns
returns c = courses_do_all
