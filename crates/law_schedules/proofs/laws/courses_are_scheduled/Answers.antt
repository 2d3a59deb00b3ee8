use Rattle.law_schedules.proofs.Scheduling.{courses_are_scheduled}
use Rattle.law_schedules.proofs.laws.courses_are_scheduled.Goals as goal

pub returns : goal.returns
returns c = courses_are_scheduled
