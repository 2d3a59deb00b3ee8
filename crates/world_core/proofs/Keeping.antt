-- What each history of a world keeps.
use Rattle.std.proofs.Common.{◌≡◌, ℕ, List, [], Result, reverse, sym, subst}
use Rattle.txn_data.specs.declared.actor.Actor.{Actor}
use Rattle.txn_data.specs.declared.commands.Commands.{Commands}
use Rattle.txn_data.specs.declared.config.Config.{Config}
use Rattle.txn_data.specs.declared.entry.Entry.{Entry}
use Rattle.txn_types.specs.History.{History}
use Rattle.txn_types.specs.Run.{Run}
use Rattle.tablet_log.specs.Logged.{Store}
use Rattle.mover_chain.specs.NextEvent.{Given}
use Rattle.mover_chain.proofs.Places.{plans_agree}
use Rattle.law_promises.proofs.KeepsPromises.{promises_kept}
use Rattle.mover_seat.specs.declared.moved.Moved.{Moved}
use Rattle.world_actors.specs.State.{ActorsState}
use Rattle.world_actors.specs.Standing.{AreLines, AreStanding, FollowsGiven, StandForSome, StepsOn}
use Rattle.world_actors.specs.declared.step_refusal.StepRefusal.{StepRefusal}
use Rattle.world_core.specs.Kept.{Keeps}

abbrev as_plan : Given → Commands
as_plan given = record { sessions = given.sessions; order = []; go = [] }

keeps : (config : Config) (given : Given) (h : History) → AreLines config given → Run config h → FollowsGiven given h → Keeps config given h
keeps config given h are run follows =
    let agree = plans_agree config (as_plan given) h run (record { rising = are.rising; sessions = are.sessions; one_tablet = are.one_tablet }) follows in
    record { run = run; follows = follows; places = agree; promises = promises_kept config h run agree }

pub standing_keeps : {L : Type 0} (config : Config) (given : Given) (start : Actor → Store) (spare : List L) (h : History) (a : ActorsState L) → AreStanding config given start spare h a → Keeps config given h
standing_keeps config given start spare h a stands = keeps config given h stands.lines stands.run stands.follows

pub for_some : {L : Type 0} (config : Config) (given : Given) (start : Actor → Store) (spare : List L) (h : History) (a : ActorsState L) → AreStanding config given start spare h a → StandForSome h a
for_some config given start spare h a stands = record { config = config; given = given; start = start; spare = spare; standing = stands }

-- a step, by the entries before and after it
pub stepped : {L : Type 0} {result : Result Moved StepRefusal} {before after : ActorsState L} (config : Config) (given : Given) (start : Actor → Store) (spare : List L) (readings : List ℕ) (who : Actor) (old kept made new : List Entry) → kept ≡ old → new ≡ made →
    (AreStanding config given start spare (reverse kept) before → StepsOn config given start spare readings who (reverse kept) (reverse made) result after) →
    AreStanding config given start spare (reverse old) before → StepsOn config given start spare readings who (reverse old) (reverse new) result after
stepped {L} {result} {before} {after} config given start spare readings who old kept made new same is steps stands =
    subst (λ (es : List Entry). StepsOn config given start spare readings who (reverse old) (reverse es) result after) (sym is)
    (subst (λ (es : List Entry). AreStanding config given start spare (reverse es) before → StepsOn config given start spare readings who (reverse es) (reverse made) result after) same steps stands)
