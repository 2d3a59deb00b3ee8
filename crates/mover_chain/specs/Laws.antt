-- What a plan says of the history that follows it, and what a schedule's count says of a mover, in every run.
use Rattle.std.specs.Prelude.{◌≡◌, ◌++◌}
use Rattle.txn_data.specs.declared.actor.Actor.{Actor}
use Rattle.txn_data.specs.declared.commands.Commands.{Commands}
use Rattle.txn_data.specs.declared.config.Config.{Config}
use Rattle.txn_types.specs.History.{History}
use Rattle.txn_types.specs.Plan.{IsPlan, PlacesAgree}
use Rattle.txn_types.specs.Run.{Run}
use Rattle.txn_types.specs.Script.{Follows, Whole, moves, has_left}
use Rattle.mover_chain.specs.NextEvent.{given_by, has_event}

-- in a run that follows a plan, places agree
abbrev pub PlansAgree : Type 0
PlansAgree = (config : Config) (plan : Commands) (h : History) → Run config h → IsPlan config plan → Follows plan h → PlacesAgree h

-- the first history stood before some later entries of the second
abbrev pub StoodBefore : History → History → Type 0
StoodBefore g h = (later : History) × (h ≡ later ++ g)

-- at each moment of a run that does all of a plan, an actor has an event left exactly where the schedules count one, over
-- the moves until then
abbrev pub LeftIsCounted : Type 0
LeftIsCounted = (config : Config) (plan : Commands) (g h : History) (a : Actor) → Run config h → Whole config plan h → StoodBefore g h →
    has_event (given_by plan) config a g ≡ has_left config h (moves g) a
