-- What all sessions stand for.
use Rattle.std.specs.Prelude.{◌≡◌, ℕ, Bool, true, false, ◌&&◌, List, Option, Some, None, nat_eq, length}
use Rattle.std.specs.Option.{option_and_then}
use Rattle.std.specs.List.{All, list_any, slice_get}
use Rattle.txn_data.specs.declared.actor.Actor.TheVariants.{Session}
use Rattle.txn_data.specs.declared.config.Config.{Config}
use Rattle.txn_data.specs.declared.session_plan.SessionPlan.{SessionPlan}
use Rattle.txn_types.specs.History.{History, own}
use Rattle.txn_types.specs.Plan.{AreRising, IsSession}
use Rattle.txn_types.specs.Run.{flight}
use Rattle.txn_types.specs.Script.{commands_of}
use Rattle.mover_chain.specs.NextEvent.{Given, NextEvent}
use Rattle.mover_seat.specs.NextEvent.{session_event}
use Rattle.mover_seat.specs.Session.{is_reading}
use Rattle.world_movers.specs.Asked.{IsSilent}
use Rattle.world_movers.specs.Slots.{EachAt, SessionStands, session_asking}
use Rattle.world_movers.specs.declared.asking.Asking.{Asking}
use Rattle.world_movers.specs.declared.session_slot.SessionSlot.{SessionSlot}
use Rattle.world_movers.specs.declared.sessions.Sessions.{Sessions}

-- the slot of a session, by its number
abbrev pub index_of : Sessions → ℕ → Option ℕ
index_of s i = option_and_then (λ (o : Option ℕ). o) (slice_get s.places.items i)

abbrev pub slot_of : Sessions → ℕ → Option SessionSlot
slot_of s i = option_and_then (slice_get s.slots.items) (index_of s i)

-- what it awaits, and whether it has a read under way
abbrev pub asking_of : Sessions → ℕ → Option Asking
asking_of s i = option_and_then session_asking (slot_of s i)

abbrev pub reads_in : Option SessionSlot → Bool
reads_in None = false
reads_in (Some s) = is_reading s.seat

abbrev pub is_reading_of : Sessions → ℕ → Bool
is_reading_of s i = reads_in (slot_of s i)

-- no more lines come, and each session was told its last command
abbrev pub are_done : Sessions → Bool
are_done s = s.finished && nat_eq s.unfinished 0

-- a session was given lines, be it none
abbrev pub is_given : ℕ → Given → Bool
is_given i given = list_any (λ (p : SessionPlan). nat_eq p.session i) given.sessions

-- what session `i` does next, by its own entries
abbrev pub next_of : Given → Config → ℕ → History → NextEvent
next_of given config i h = session_event (commands_of i given.sessions) given.all config i (own (Session i) h) (flight (Session i) h)

-- the sessions stand for those that were given lines, after a history. `places` leads to the slot of each and of no other.
pub record SessionsStand (config : Config) (given : Given) (h : History) (s : Sessions) : Type 0 where
  pub rising : AreRising given.sessions
  pub numbers : All (λ (p : SessionPlan). IsSession p.session) given.sessions
  pub finished : s.finished ≡ given.all
  pub slots : EachAt s.slots.items (length given.sessions) (λ n slot. (p : SessionPlan) → slice_get given.sessions n ≡ Some p → SessionStands config p.session p.commands given.all h slot)
  pub places : (n : ℕ) (p : SessionPlan) → slice_get given.sessions n ≡ Some p → slice_get s.places.items p.session ≡ Some (Some n)
  pub no_other : (i n : ℕ) → slice_get s.places.items i ≡ Some (Some n) → (p : SessionPlan) × (slice_get given.sessions n ≡ Some p) × (p.session ≡ i)
  pub others : (i : ℕ) → is_given i given ≡ false → IsSilent h (Session i)
