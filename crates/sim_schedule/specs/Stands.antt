-- What a simulation stands for, and what a part of a schedule leaves of it.
use Rattle.std.specs.Prelude.{◌≡◌, ℕ, ◌<◌, true, List, [], length}
use Rattle.txn_data.specs.declared.actor.Actor.{Actor}
use Rattle.txn_data.specs.declared.actor.Actor.TheVariants.{Session, Applier}
use Rattle.txn_data.specs.declared.commands.Commands.{Commands}
use Rattle.txn_data.specs.declared.config.Config.{Config}
use Rattle.txn_data.specs.declared.session_plan.SessionPlan.{SessionPlan}
use Rattle.txn_types.specs.History.{History}
use Rattle.txn_types.specs.Script.{from_up, IsRunnable, number_at, reading_of, ReadingsAsTold}
use Rattle.tablet_log.specs.Logged.{Store}
use Rattle.mover_chain.specs.NextEvent.{given_by, is_left, next_event}
use Rattle.law_schedules.specs.Courses.{at_work, CourseBy, DrawnCourse, MovedToEnd, OneByOne}
use Rattle.law_moves.specs.Passing.{CanPass}
use Rattle.world_core.specs.State.{WorldState}
use Rattle.world_core.specs.World.{recorded, StandsFor}

-- A world and the clocks of its nodes stand for a plan that can be run, and for these stores at the beginning. Each reading of
-- the history is that of the last clock told before, and so is each clock.
pub record Stands {L : Type 0} (config : Config) (plan : Commands) (start : Actor → Store) (spare : List L) (w : WorldState L) (clocks : List ℕ) : Type 0 where
  pub runnable : IsRunnable config plan
  pub world : StandsFor config (given_by plan) start spare w
  pub readings : ReadingsAsTold config (recorded w)
  pub many : length clocks ≡ config.nodes
  pub told : (node : ℕ) → node < config.nodes → number_at node clocks ≡ reading_of config node (recorded w)

-- for some stores
pub record Standing {L : Type 0} (config : Config) (plan : Commands) (w : WorldState L) (clocks : List ℕ) : Type 0 where
  pub start : Actor → Store
  pub spare : List L
  pub stands : Stands config plan start spare w clocks

-- for some cluster and plan
pub record Stand {L : Type 0} (w : WorldState L) (clocks : List ℕ) : Type 0 where
  pub config : Config
  pub plan : Commands
  pub standing : Standing config plan w clocks

-- for this plan and some cluster
pub record StandFor {L : Type 0} (plan : Commands) (w : WorldState L) (clocks : List ℕ) : Type 0 where
  pub config : Config
  pub standing : Standing config plan w clocks

-- for this cluster and some plan
pub record StandIn {L : Type 0} (config : Config) (w : WorldState L) (clocks : List ℕ) : Type 0 where
  pub plan : Commands
  pub standing : Standing config plan w clocks

-- for some cluster and plan, and this mover has an event left there
pub record HasNext {L : Type 0} (w : WorldState L) (clocks : List ℕ) (a : Actor) : Type 0 where
  pub config : Config
  pub plan : Commands
  pub standing : Standing config plan w clocks
  pub left : is_left (next_event (given_by plan) config a (recorded w)) ≡ true

-- for this cluster and some plan, and each applier can make one pass more there
pub record HasPasses {L : Type 0} (config : Config) (w : WorldState L) (clocks : List ℕ) : Type 0 where
  pub plan : Commands
  pub number : ℕ
  pub standing : Standing config plan w clocks
  pub can : CanPass config plan number (recorded w)

-- what a part of a schedule leaves: the simulation stands for what it stood for before, and it went on so
pub record Went {L : Type 0} (config : Config) (plan : Commands) (w : WorldState L) (clocks : List ℕ) (w' : WorldState L) (clocks' : List ℕ) (fact : Type 0) : Type 0 where
  pub stands : (start : Actor → Store) (spare : List L) → Stands config plan start spare w clocks → Stands config plan start spare w' clocks'
  pub standing : Standing config plan w' clocks'
  pub so : fact

-- a history was made by the schedule of the cluster, and no mover has an event left
pub record IsOver (config : Config) (plan : Commands) (h : History) : Type 0 where
  pub chosen : CourseBy config.schedule config plan h
  pub none : at_work config plan h ≡ []

-- from one history to the next each session was moved to its end, by number
abbrev pub SessionsEnded : Config → Commands → History → History → Type 0
SessionsEnded config plan g h = OneByOne (λ (p : SessionPlan). MovedToEnd (given_by plan) config (Session p.session)) plan.sessions g h

-- and so was each applier
abbrev pub AppliersEnded : Config → Commands → History → History → Type 0
AppliersEnded config plan g h = OneByOne (λ (k : ℕ). MovedToEnd (given_by plan) config (Applier k)) (from_up 0 config.tablets) g h

-- a history was made as drawn, and no mover has an event left
pub record IsDrawn (config : Config) (plan : Commands) (h : History) : Type 0 where
  pub course : DrawnCourse config plan h
  pub none : at_work config plan h ≡ []
