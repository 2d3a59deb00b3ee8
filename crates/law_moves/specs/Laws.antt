-- What the moves of one mover leave of the others, and that each move which a schedule names can be made.
use Rattle.std.specs.Prelude.{◌≡◌, ◌+◌, ℕ, true, false, List, [], ◌∷◌, ◌++◌}
use Rattle.txn_data.specs.declared.actor.Actor.{Actor}
use Rattle.txn_data.specs.declared.actor.Actor.TheVariants.{Session}
use Rattle.txn_data.specs.declared.commands.Commands.{Commands}
use Rattle.txn_data.specs.declared.config.Config.{Config}
use Rattle.txn_data.specs.declared.entry.Entry.{Entry}
use Rattle.txn_types.specs.History.{History, same_actor}
use Rattle.txn_types.specs.Run.{Run}
use Rattle.txn_types.specs.Script.{asker, IsRunnable}
use Rattle.mover_chain.specs.NextEvent.{given_by, has_event, is_left, next_event}
use Rattle.law_schedules.specs.Courses.{at_work, CourseBy, MovedUntilTold, OneByOne}
use Rattle.law_moves.specs.Passing.{CanPass}

-- an entry that is the move of another mover changes nothing of whether a mover has an event left
abbrev pub OthersStay : Type 0
OthersStay = (config : Config) (plan : Commands) (a : Actor) (e : Entry) (h : History) → same_actor (asker e) a ≡ false →
    has_event (given_by plan) config a (e ∷ h) ≡ has_event (given_by plan) config a h

-- where the lines before it were done in their order, the session that a line names has an event left
abbrev pub LinesCanStart : Type 0
LinesCanStart = (config : Config) (plan : Commands) (before more : List ℕ) (i : ℕ) (h : History) → IsRunnable config plan → Run config h → plan.order ≡ before ++ i ∷ more →
    OneByOne (λ (j : ℕ). MovedUntilTold (Session j)) before [] h → is_left (next_event (given_by plan) config (Session i) h) ≡ true

-- where a schedule has come to its end, the appliers can make their last passes
abbrev pub LastPassesCanBegin : Type 0
LastPassesCanBegin = (config : Config) (plan : Commands) (h : History) → Run config h → CourseBy config.schedule config plan h → at_work config plan h ≡ [] →
    CanPass config plan (config.passes + 1) h
