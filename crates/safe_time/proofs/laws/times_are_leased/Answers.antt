use Rattle.safe_time.proofs.Courses.{leased, leased_step}
use Rattle.safe_time.proofs.laws.times_are_leased.Goals as goal

pub returns-clause-counted : goal.returns-clause-counted
returns-clause-counted c = leased

pub returns-clause-served : goal.returns-clause-served
returns-clause-served c = leased_step
