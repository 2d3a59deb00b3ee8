-- What the actors of a cluster stand for.
use Rattle.std.specs.Prelude.{◌≡◌, ◌≤◌, ◌^◌, ℕ, true, false, List, Option, Some, None, Result, Err, flat_map, length, is_some, option_and_then}
use Rattle.std.specs.List.{All, slice_get}
use Rattle.txn_data.specs.declared.actor.Actor.{Actor}
use Rattle.txn_data.specs.declared.actor.Actor.TheVariants.{Session}
use Rattle.txn_data.specs.declared.config.Config.{Config}
use Rattle.txn_data.specs.declared.entry.Entry.{Entry}
use Rattle.txn_data.specs.declared.event.Event.{Event}
use Rattle.txn_data.specs.declared.event.Event.TheVariants.{Ask}
use Rattle.txn_data.specs.declared.mover.Mover.{Mover}
use Rattle.txn_data.specs.declared.request.Request.{Request}
use Rattle.txn_types.specs.History.{History, own}
use Rattle.txn_types.specs.Plan.{AreRising, IsSessionPlan, OneTablet, plan_places}
use Rattle.txn_types.specs.Run.{Asked, flight, Run}
use Rattle.txn_types.specs.Script.{FollowsLines, actor_of, commands_of, lines}
use Rattle.session_core.specs.Turn.{lists}
use Rattle.tablet_log.specs.Logged.{Store}
use Rattle.mover_chain.specs.NextEvent.{Given}
use Rattle.mover_seat.specs.Stage.{awaited}
use Rattle.mover_seat.specs.declared.moved.Moved.{Moved}
use Rattle.world_machines.specs.Machines as machines
use Rattle.world_movers.specs.Asked.{IsAsking}
use Rattle.world_movers.specs.Movers as movers
use Rattle.world_movers.specs.Movers.{awaits_of, takes_lists}
use Rattle.world_movers.specs.declared.asking.Asking.{Asking}
use Rattle.world_movers.specs.declared.movers.Movers.{Movers}
use Rattle.world_actors.specs.State.{ActorsState}
use Rattle.world_actors.specs.Steps.{Steps, has_next}
use Rattle.world_actors.specs.declared.step_refusal.StepRefusal.{StepRefusal}
use Rattle.world_actors.specs.declared.step_refusal.StepRefusal.TheVariants as refusal

-- the lines that sessions were given so far may be those of a plan
pub record AreLines (config : Config) (given : Given) : Type 0 where
  pub rising : AreRising given.sessions
  pub sessions : All (IsSessionPlan config) given.sessions
  pub one_tablet : OneTablet (flat_map plan_places given.sessions)

-- the lines that each session started are the first ones that it was given, or all of them and then End
abbrev pub FollowsGiven : Given → History → Type 0
FollowsGiven given h = (i : ℕ) → FollowsLines (lines (Session i) h) (commands_of i given.sessions)

-- The actors stand for this cluster, the lines that each session was given so far, whether more may come, and what each store
-- held and had counted at the beginning, after this history. The stores that no actor uses are these.
pub record AreStanding {L : Type 0} (config : Config) (given : Given) (start : Actor → Store) (spare : List L) (h : History) (a : ActorsState L) : Type 0 where
  pub cluster : a.config ≡ config
  pub lines : AreLines config given
  pub run : Run config h
  pub follows : FollowsGiven given h
  pub movers : movers.StandsFor config given h a.movers
  pub machines : machines.StandsFor config start spare h a.machines

-- they stand for some cluster, lines and stores
pub record StandForSome {L : Type 0} (h : History) (a : ActorsState L) : Type 0 where
  pub config : Config
  pub given : Given
  pub start : Actor → Store
  pub spare : List L
  pub standing : AreStanding config given start spare h a

-- a mover has an event left, whatever lines the movers stand for
abbrev pub HasEvent : History → Movers → Mover → Type 0
HasEvent h m who = (config : Config) (given : Given) → movers.StandsFor config given h m → has_next given config (actor_of who) h ≡ true

-- a mover awaits no reply
pub record AwaitsNone (h : History) (m : Movers) (who : Mover) : Type 0 where
  pub value : is_some (awaits_of m who) ≡ false
  pub none : (config : Config) (given : Given) → movers.StandsFor config given h m → is_some (awaited (flight (actor_of who) h)) ≡ false

-- a mover awaits a reply to what it asked there
pub record Awaits (h : History) (m : Movers) (who : Mover) (asking : Asking) : Type 0 where
  pub value : awaits_of m who ≡ Some asking
  pub asks : (config : Config) (given : Given) → movers.StandsFor config given h m → IsAsking h (actor_of who) asking
  pub listing : (config : Config) (given : Given) (to : Actor) (asked : Request) → movers.StandsFor config given h m → flight (actor_of who) h ≡ Asked to asked → lists asked ≡ true → takes_lists m who ≡ true

-- What a step leaves of the actors, and what it came to. A machine that made 2^62 actions serves no more: what it is asked is
-- refused as for want of memory.
pub record StepsOn {L : Type 0} (config : Config) (given : Given) (start : Actor → Store) (spare : List L) (readings : List ℕ) (who : Actor) (h g : History) (result : Result Moved StepRefusal) (a : ActorsState L) : Type 0 where
  pub standing : AreStanding config given start spare g a
  pub steps : Steps given config readings who h g result
  pub full : (by : Actor) (asked : Request) → flight who h ≡ Asked by asked → 2 ^ 62 ≤ length (own by h) → result ≡ Err refusal.Memory

-- what an event asks for
abbrev pub asked_in : Event → Option Request
asked_in (Ask to asked) = Some asked
asked_in event = None

-- what the entry at a place of a trace asks for
abbrev pub asked_at : List Entry → ℕ → Option Request
asked_at entries place = option_and_then (λ (e : Entry). asked_in e.event) (slice_get entries place)
