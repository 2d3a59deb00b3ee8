-- What a world stands for.
use Rattle.std.specs.Prelude.{◌≡◌, ◌+◌, ℕ, List, length}
use Rattle.txn_data.specs.declared.actor.Actor.{Actor}
use Rattle.txn_data.specs.declared.config.Config.{Config}
use Rattle.txn_types.specs.History.{History, history_of}
use Rattle.tablet_log.specs.Logged.{Store, AllLogged}
use Rattle.mover_chain.specs.NextEvent.{Given}
use Rattle.world_machines.specs.Stores.{spare_of, stores_of}
use Rattle.world_actors.specs.Standing.{AreStanding}
use Rattle.world_core.specs.Kept.{Keeps}
use Rattle.world_core.specs.State.{WorldState}

-- the history that a world recorded
abbrev pub recorded : {L : Type 0} → WorldState L → History
recorded w = history_of w.trace

-- a world stands for this cluster, the lines that each session was given so far, whether more may come, and what each store
-- held and had counted at the beginning; the stores that no actor uses are these
abbrev pub StandsFor : {L : Type 0} → Config → Given → (Actor → Store) → List L → WorldState L → Type 0
StandsFor config given start spare w = AreStanding config given start spare (recorded w) w.actors

-- What a world leaves when it is closed: what it recorded, with what that keeps. Each store holds what its actor's entries
-- logged, over what it held at the beginning. The stores that no actor uses are as they were, behind the others.
pub record IsClosed {L : Type 0} (config : Config) (held : L → List ℕ) (faults : L → ℕ) (given : Given) (start : Actor → Store) (spare : List L) (h g : History) (xs : List L) : Type 0 where
  pub history : g ≡ h
  pub keeps : Keeps config given h
  pub logged : AllLogged config h start (stores_of config held faults xs)
  pub many : length xs ≡ config.tablets + config.status + length spare
  pub rest : spare_of config xs ≡ spare
