use Rattle.safe_time.proofs.Courses.{rising}
use Rattle.safe_time.proofs.laws.times_rise.Goals as goal

pub returns : goal.returns
returns c = rising
