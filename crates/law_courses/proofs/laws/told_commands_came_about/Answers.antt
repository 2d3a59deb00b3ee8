use Rattle.law_courses.proofs.Courses.{told_came_about}
use Rattle.law_courses.proofs.laws.told_commands_came_about.Goals as goal

pub returns : goal.returns
returns c = told_came_about
