-- What is made by a schedule, move by move, is scheduled as a whole and does all of its plan.
use Rattle.std.specs.Prelude.{◌≡◌, ◌+◌, ◌++◌}
use Rattle.txn_data.specs.declared.commands.Commands.{Commands}
use Rattle.txn_data.specs.declared.config.Config.{Config}
use Rattle.txn_types.specs.History.{History}
use Rattle.txn_types.specs.Run.{Run}
use Rattle.txn_types.specs.Script.{Follows, IsRunnable, Whole, moves, moves_by, passes_at}
use Rattle.law_schedules.specs.Courses.{Course}

-- a run that was made so does all of its plan
abbrev pub CoursesDoAll : Type 0
CoursesDoAll = (config : Config) (plan : Commands) (h : History) → IsRunnable config plan → Run config h → Follows plan h → Course config plan h → Whole config plan h

-- and its moves are those that the schedule names over the whole of it
abbrev pub CoursesAreScheduled : Type 0
CoursesAreScheduled = (config : Config) (plan : Commands) (h : History) → IsRunnable config plan → Run config h → Follows plan h → Course config plan h →
    moves h ≡ moves_by config.schedule config plan h ++ passes_at config h (config.passes + 1)
