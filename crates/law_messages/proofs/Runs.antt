-- What the rules say holds in every run.
use Rattle.std.proofs.Common.{ℕ, [], ◌∷◌, Option}
use Rattle.txn_data.specs.declared.actor.Actor.{Actor}
use Rattle.txn_data.specs.declared.told.Told.{Told}
use Rattle.txn_data.specs.declared.config.Config.{Config}
use Rattle.txn_data.specs.declared.event.Event.TheVariants.{Tell}
use Rattle.txn_data.specs.declared.entry.Entry.{Entry}
use Rattle.txn_types.specs.History.{History}
use Rattle.txn_types.specs.Session.{at_first}
use Rattle.txn_types.specs.Reads.{before_start}
use Rattle.txn_types.specs.Run.{mover_at, flight, Steps, Allowed}
use Rattle.law_machines.specs.Own.{StandsOver}
use Rattle.law_machines.proofs.Owns.{steps_at}
use Rattle.law_messages.proofs.Rules.{Rules, stage_of, entry, IsFine, GoodServe, Now, lasts}
use Rattle.law_messages.proofs.Safe.{Keeping}
use Rattle.law_messages.proofs.Moves.{At, moves, good_serve, own_tell}

pub record Kept (R : Rules) (config : Config) (h : History) : Type 0 where
  pub base : R.Base h
  pub movers : (m : Actor) → At R config m h

first_mover : (R : Rules) (config : Config) → Keeping R config → (m : Actor) → At R config m []
unfolding mover_at flight before_start
first_mover R config keeping m = λ g on. lasts R config m (λ (h : History). R.Idle h m at_first) (λ h e base fine other idle. keeping.idle h e m at_first base fine other idle) [] g on (keeping.first_idle m)

pub fine_of : (R : Rules) (config : Config) (h : History) (e : Entry) → Steps config h → Allowed config h e.actor e.reading e.event → Kept R config h → IsFine R config h e
fine_of R config h e steps allowed is = record {
  steps = steps;
  allowed = allowed;
  good = good_serve R config h e.actor e.reading e.event steps is.base allowed is.movers;
}

-- what the rules keep holds in every run
pub kept_by : (R : Rules) (config : Config) → Keeping R config → (h : History) → Steps config h → Kept R config h
unfolding Steps
kept_by R config keeping [] steps = record { base = keeping.first_base; movers = first_mover R config keeping }
kept_by R config keeping (e ∷ h) steps =
    let before : Kept R config h = kept_by R config keeping h steps.0 in
    let fine : IsFine R config h e = fine_of R config h e steps.0 steps.1 before in
    let after : R.Base (e ∷ h) = keeping.base h e before.base fine in
    record { base = after; movers = λ m. moves R config keeping h e.actor e.reading e.event m before.base fine after (before.movers m) }

-- each request that was served was good
pub good_of : (R : Rules) (config : Config) → Keeping R config → (h before : History) (e : Entry) → Steps config h → StandsOver e before h → GoodServe R before e.actor e.event
unfolding Steps
good_of R config keeping h before e steps stands =
    let up_to : Steps config (e ∷ before) = steps_at config e before h steps stands in
    (fine_of R config before e up_to.0 up_to.1 (kept_by R config keeping before up_to.0)).good

-- each command that was told had behind it what the rules ask
pub ends_of : (R : Rules) (config : Config) → Keeping R config → (h before : History) (m : Actor) (reading : Option ℕ) (number : ℕ) (t : Told) → Steps config h →
    StandsOver (entry m reading (Tell number t)) before h →
    R.Ends (before_start m before) m (entry m reading (Tell number t) ∷ before) (stage_of (mover_at config m before)) t
unfolding Steps
ends_of R config keeping h before m reading number t steps stands =
    let e = entry m reading (Tell number t) in
    let up_to : Steps config (e ∷ before) = steps_at config e before h steps stands in
    let is = kept_by R config keeping before up_to.0 in
    (own_tell R config before m reading number t is.base (fine_of R config before e up_to.0 up_to.1 is) (is.movers m) (e ∷ before) Now).0
