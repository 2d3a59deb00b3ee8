-- What all appliers stand for.
use Rattle.std.specs.Prelude.{◌≡◌, ℕ, Bool, false, Option, nat_lt, if◌then◌else◌}
use Rattle.std.specs.Option.{option_and_then}
use Rattle.std.specs.List.{slice_get}
use Rattle.txn_data.specs.declared.actor.Actor.TheVariants.{Applier}
use Rattle.txn_data.specs.declared.config.Config.{Config}
use Rattle.txn_types.specs.History.{History, own}
use Rattle.txn_types.specs.Run.{flight}
use Rattle.mover_chain.specs.NextEvent.{NextEvent, NoneLeft}
use Rattle.mover_seat.specs.NextEvent.{applier_event}
use Rattle.world_movers.specs.Asked.{IsSilent}
use Rattle.world_movers.specs.Slots.{ApplierStands, EachAt, applier_asking}
use Rattle.world_movers.specs.declared.appliers.Appliers.{Appliers}
use Rattle.world_movers.specs.declared.asking.Asking.{Asking}

-- what the applier of a tablet awaits
abbrev pub asking_of : Appliers → ℕ → Option Asking
asking_of s k = option_and_then applier_asking (slice_get s.slots.items k)

-- what the applier of a tablet does next, by its own entries; `done` where each session was told its last command
abbrev pub next_of : Bool → Config → ℕ → History → NextEvent
next_of done config k h = if nat_lt k config.tablets then applier_event done config k (own (Applier k) h) (flight (Applier k) h) else NoneLeft

-- the appliers stand for those of the tablets of a cluster, after a history
pub record AppliersStand (config : Config) (h : History) (s : Appliers) : Type 0 where
  pub slots : EachAt s.slots.items config.tablets (λ k slot. ApplierStands config k h slot)
  pub others : (k : ℕ) → nat_lt k config.tablets ≡ false → IsSilent h (Applier k)
