-- What a slot stands for.
use Rattle.std.specs.Prelude.{◌≡◌, ℕ, Bool, List, Option, Some, length}
use Rattle.std.specs.Option.{option_map}
use Rattle.std.specs.List.{slice_get}
use Rattle.txn_data.specs.declared.actor.Actor.{Actor}
use Rattle.txn_data.specs.declared.actor.Actor.TheVariants.{Session, Applier}
use Rattle.txn_data.specs.declared.command.Command.{Command}
use Rattle.txn_data.specs.declared.config.Config.{Config}
use Rattle.txn_types.specs.History.{History, own}
use Rattle.txn_types.specs.Run.{flight}
use Rattle.mover_chain.specs.NextEvent.{is_left}
use Rattle.mover_seat.specs.Applier as applier
use Rattle.mover_seat.specs.NextEvent.{session_event}
use Rattle.mover_seat.specs.Session as session
use Rattle.world_movers.specs.Asked.{AskedAt}
use Rattle.world_movers.specs.declared.applier_slot.ApplierSlot.{ApplierSlot}
use Rattle.world_movers.specs.declared.asking.Asking.{Asking}
use Rattle.world_movers.specs.declared.session_slot.SessionSlot.{SessionSlot}

-- the machine that was asked and did not answer so far, and the place of the entry that asked
abbrev pub asking_from : ℕ → Option Actor → Option Asking
asking_from place to = option_map (λ (a : Actor). record { to = a; at = place }) to

abbrev pub session_asking : SessionSlot → Option Asking
session_asking s = asking_from s.asked (session.awaits_of s.seat)

abbrev pub applier_asking : ApplierSlot → Option Asking
applier_asking s = asking_from s.asked (applier.awaits_of s.seat)

-- a slot stands for session `i`, which was given these lines, after a history; `all` where no more lines come
pub record SessionStands (config : Config) (i : ℕ) (given : List Command) (all : Bool) (h : History) (s : SessionSlot) : Type 0 where
  pub seat : session.StandsFor config i given all (own (Session i) h) (flight (Session i) h) s.seat
  pub asked : AskedAt h s.asked (flight (Session i) h)
  pub left : s.left ≡ is_left (session_event given all config i (own (Session i) h) (flight (Session i) h))

-- a slot stands for the applier of tablet `k` after a history
pub record ApplierStands (config : Config) (k : ℕ) (h : History) (s : ApplierSlot) : Type 0 where
  pub seat : applier.StandsFor config k (own (Applier k) h) (flight (Applier k) h) s.seat
  pub asked : AskedAt h s.asked (flight (Applier k) h)

-- a list has so many elements, each right for its place
pub record EachAt {X : Type 0} (xs : List X) (many : ℕ) (right : ℕ → X → Type 0) : Type 0 where
  pub as_many : length xs ≡ many
  pub each : (n : ℕ) (x : X) → slice_get xs n ≡ Some x → right n x
