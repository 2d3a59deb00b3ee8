-- What a simulation leaves.
use Rattle.std.specs.Prelude.{◌≡◌, ℕ, List, length}
use Rattle.txn_data.specs.declared.commands.Commands.{Commands}
use Rattle.txn_data.specs.declared.config.Config.{Config}
use Rattle.txn_types.specs.History.{History}
use Rattle.txn_types.specs.Script.{ReadingsAsTold, Scheduled, Whole}
use Rattle.tablet_log.specs.Logged.{AllLogged}
use Rattle.mover_chain.specs.NextEvent.{given_by}
use Rattle.world_machines.specs.Stores.{spare_of, stores_of}
use Rattle.world_core.specs.Kept.{Keeps}

-- All stores are back. Each holds what the entries of its actor logged, over what it held before; those that no actor uses
-- are as before.
pub record AreBack {L : Type 0} (config : Config) (held : L → List ℕ) (faults : L → ℕ) (before after : List L) (h : History) : Type 0 where
  pub many : length after ≡ length before
  pub logged : AllLogged config h (stores_of config held faults before) (stores_of config held faults after)
  pub spare : spare_of config after ≡ spare_of config before

-- The history is a run that keeps all promises and follows the plan. It does all of the plan, its moves and readings are those
-- that plan and schedule name, and all stores are back.
pub record DidAll {L : Type 0} (config : Config) (plan : Commands) (held : L → List ℕ) (faults : L → ℕ) (before after : List L) (h : History) : Type 0 where
  pub keeps : Keeps config (given_by plan) h
  pub whole : Whole config plan h
  pub scheduled : Scheduled config plan h
  pub stores : AreBack config held faults before after h

-- Memory ran out. The history so far is a run that keeps all promises and follows the plan, its readings are the nodes', and
-- all stores are back.
pub record RanOut {L : Type 0} (config : Config) (plan : Commands) (held : L → List ℕ) (faults : L → ℕ) (before after : List L) (h : History) : Type 0 where
  pub keeps : Keeps config (given_by plan) h
  pub readings : ReadingsAsTold config h
  pub stores : AreBack config held faults before after h
