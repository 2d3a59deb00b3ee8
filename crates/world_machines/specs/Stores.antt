-- The stores of a world: which actor has which, and which are spare.
use Rattle.std.specs.Prelude.{◌≡◌, ℕ, ◌+◌, ◌≤◌, List, [], Option, Some, None, drop, length}
use Rattle.std.specs.List.{All, slice_get}
use Rattle.txn_data.specs.declared.actor.Actor.{Actor}
use Rattle.txn_data.specs.declared.actor.Actor.TheVariants.{Tablet, Status}
use Rattle.txn_data.specs.declared.config.Config.{Config}
use Rattle.tablet_log.specs.Logged.{Store}
use Rattle.leased_log.specs.Stands.{LogState}

-- a store that holds nothing and has counted no fault
abbrev pub no_store : Store
no_store = record { held = []; faults = 0 }

abbrev pub store_of : {L : Type 0} → (L → List ℕ) → (L → ℕ) → L → Store
store_of held faults l = record { held = held l; faults = faults l }

abbrev pub store_or_none : {L : Type 0} → (L → List ℕ) → (L → ℕ) → Option L → Store
store_or_none held faults None = no_store
store_or_none held faults (Some l) = store_of held faults l

-- the store at a place of a list, or none
abbrev pub store_at : {L : Type 0} → (L → List ℕ) → (L → ℕ) → List L → ℕ → Store
store_at held faults xs n = store_or_none held faults (slice_get xs n)

-- the tablets have the first stores of a list, by their numbers, and the status tablets those behind them
abbrev pub stores_of : {L : Type 0} → Config → (L → List ℕ) → (L → ℕ) → List L → Actor → Store
stores_of config held faults xs (Tablet k) = store_at held faults xs k
stores_of config held faults xs (Status j) = store_at held faults xs (config.tablets + j)
stores_of config held faults xs a = no_store

-- and no actor uses the rest
abbrev pub spare_of : {L : Type 0} → Config → List L → List L
spare_of config xs = drop (config.tablets + config.status) xs

-- the machines of a cluster can be opened on these stores: there are enough, and each is empty
pub record AreStores {L : Type 0} (config : Config) (held : L → List ℕ) (xs : List L) : Type 0 where
  pub enough : config.tablets + config.status ≤ length xs
  pub empty : All (λ l. held l ≡ []) xs

-- the store that the log of a machine keeps
abbrev pub kept_by : LogState → Store
kept_by log = record { held = log.held; faults = log.faults }
