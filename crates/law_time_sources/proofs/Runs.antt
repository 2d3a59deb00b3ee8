-- In every run all times come from readings that were recorded.
use Rattle.std.proofs.Common.{◌≡◌, ℕ, Bool, true, false, [], ◌∷◌, Option, Some, None, refl, sym, ◌∙◌, ap, subst, inl, inr, if◌then◌else◌}
use Rattle.hybrid_time.specs.Time.{micros_of}
use Rattle.txn_data.specs.declared.actor.Actor.{Actor}
use Rattle.txn_data.specs.declared.config.Config.{Config}
use Rattle.txn_data.specs.declared.request.Request.{Request}
use Rattle.txn_data.specs.declared.request.Request.TheVariants as request
use Rattle.txn_data.specs.declared.reply.Reply.{Reply}
use Rattle.txn_data.specs.declared.reply.Reply.TheVariants as reply
use Rattle.txn_data.specs.declared.append.Append.{Append}
use Rattle.txn_data.specs.declared.event.Event.{Event}
use Rattle.txn_data.specs.declared.event.Event.TheVariants.{Start, Ask, Serve, Hear, Tell, Restarted}
use Rattle.txn_data.specs.declared.entry.Entry.{Entry}
use Rattle.txn_types.specs.Lists.{Member}
use Rattle.txn_types.specs.History.{History, same_actor, own}
use Rattle.txn_types.specs.Tablet.{greatest_fate}
use Rattle.txn_types.specs.Plan.{IsCluster}
use Rattle.txn_types.specs.Run.{Run, Steps, Allowed, Serves, mover_at, Flight, Quiet, Asked, Answered, flight, flight_after, CanHear}
use Rattle.law_machines.specs.Own.{time_of}
use Rattle.law_machines.proofs.Basics.{test_cases}
use Rattle.law_machines.proofs.Owns.{steps_at, own_member}
use Rattle.law_clocks.specs.Laws.{floor_of, floor_at}
use Rattle.law_readings.proofs.Sources.{times_from}
use Rattle.law_time_sources.specs.Laws.{IsGrounded, RequestIsGrounded, ReplyIsGrounded, TimeIsGrounded, EventIsGrounded, TimesAreGrounded}
use Rattle.law_time_sources.proofs.Grounds.{Within, within_more, request_in, reply_in, event_in, zero_grounded, greater_grounded, greatest_grounded, reading_grounded}
use Rattle.law_time_sources.proofs.Tables.{AllGrounded, reply_grounded}
use Rattle.law_time_sources.proofs.Movers.{MoverIsGrounded, ReadingIsGrounded, OwnIsGrounded, mover_in, mover_moves, asks_grounded, tells_grounded}

abbrev FlightIsGrounded : History → Flight → Type 0
FlightIsGrounded h Quiet = Unit {0}
FlightIsGrounded h (Asked to asked) = RequestIsGrounded h asked
FlightIsGrounded h (Answered from r) = ReplyIsGrounded h r

flight_in : (h g : History) (f : Flight) → Within h g → FlightIsGrounded h f → FlightIsGrounded g f
flight_in h g Quiet on is = tt
flight_in h g (Asked to asked) on is = request_in h g asked on is
flight_in h g (Answered from r) on is = reply_in h g r on is

-- all entries, all movers and all messages
record State (config : Config) (h : History) : Type 0 where
  pub entries : AllGrounded h h
  pub movers : (m : Actor) → MoverIsGrounded h (mover_at config m h)
  pub flights : (m : Actor) → FlightIsGrounded h (flight m h)

-- ## the time that a machine takes

asked_floor : (h : History) (asked : Request) → RequestIsGrounded h asked → IsGrounded h (floor_of asked)
asked_floor h (request.Write meta number path op read seen fates) is = is.1
asked_floor h (request.Single x path op seen fates) is = greater_grounded h seen (greatest_fate fates fates) is.0 (greatest_grounded h fates fates is.1)
asked_floor h (request.ListRead own_txn paths t g limit) is = is
asked_floor h (request.AskFate x t) is = is
asked_floor h (request.Apply x at) is = is
asked_floor h (request.Commit x floor tablets) is = is
asked_floor h asked is = zero_grounded h

event_floor : (h : History) (event : Event) → EventIsGrounded h event → IsGrounded h (floor_at event)
event_floor h (Serve from asked r time append) is = asked_floor h asked is.0
event_floor h event is = zero_grounded h

same_micros : (h : History) (low time : ℕ) → micros_of low ≡ micros_of time → IsGrounded h low → IsGrounded h time
same_micros h low time same is = elim is [ inl none ↦ inl (sym same ∙ none) | inr read ↦ inr (read.0, read.1, read.2 ∙ ap Some same) ]

-- the floors of all entries up to this one are grounded
machine_time : (config : Config) (h : History) (e : Entry) (y : ℕ) → Run config (e ∷ h) → ((f : Entry) → Member f (e ∷ h) → IsGrounded (e ∷ h) (floor_at f.event)) → time_of e.event ≡ Some y → IsGrounded (e ∷ h) y
machine_time config h e y run floors is = elim (times_from config (e ∷ h) h e y run (inl (refl, refl)) is) [
  | inl none ↦ inl none
  | inr some ↦ elim some [
    | inl read ↦ inr (read.0, own_member read.0 e.actor (e ∷ h) read.1, read.2)
    | inr floor ↦ same_micros (e ∷ h) (floor_at floor.0.event) y floor.2 (floors floor.0 (own_member floor.0 e.actor (e ∷ h) floor.1))
  ]
]

floors_of : (h : History) (e : Entry) → IsGrounded (e ∷ h) (floor_at e.event) → AllGrounded h h → (f : Entry) → Member f (e ∷ h) → IsGrounded (e ∷ h) (floor_at f.event)
floors_of h e low all f m = elim m [
  | inl here ↦ subst (λ (g : Entry). IsGrounded (e ∷ h) (floor_at g.event)) (sym here) low
  | inr deeper ↦ event_floor (e ∷ h) f.event (event_in h (e ∷ h) f.event (within_more e h) (all f deeper))
]

-- ## one more entry

flight_asked : (h : History) (f : Flight) (to : Actor) (asked : Request) → f ≡ Asked to asked → FlightIsGrounded h f → RequestIsGrounded h asked
flight_asked h f to asked is grounded = subst (λ (g : Flight). FlightIsGrounded h g) is grounded

hears_grounded : (h : History) (f : Flight) (from : Actor) (r : Reply) → CanHear f from r → FlightIsGrounded h f → ReplyIsGrounded h r
hears_grounded h Quiet from r can is = absurd can
hears_grounded h (Asked to asked) from r can is = subst (λ (q : Reply). ReplyIsGrounded h q) (sym can.1) tt
hears_grounded h (Answered by answer) from r can is = subst (λ (q : Reply). ReplyIsGrounded h q) (sym can.1) is

own_reading : (h : History) (e : Entry) (reading : Option ℕ) → e.reading ≡ reading → ReadingIsGrounded (e ∷ h) reading
own_reading h e (Some r) is = reading_grounded (e ∷ h) e r (inl refl) is
own_reading h e None is = tt

option_time : (config : Config) (h : History) (e : Entry) (time : Option ℕ) → Run config (e ∷ h) → ((f : Entry) → Member f (e ∷ h) → IsGrounded (e ∷ h) (floor_at f.event)) → time_of e.event ≡ time → TimeIsGrounded (e ∷ h) time
option_time config h e None run floors is = tt
option_time config h e (Some y) run floors is = machine_time config h e y run floors is

all_in : (h g l : History) → Within h g → AllGrounded h l → AllGrounded g l
all_in h g l on all = λ f m. event_in h g f.event on (all f m)

served_event : (config : Config) (h : History) (e : Entry) (from : Actor) (asked : Request) (r : Reply) (time : Option ℕ) (append : Append) → Run config (e ∷ h) → State config h → e.event ≡ Serve from asked r time append →
    flight from h ≡ Asked e.actor asked → Serves config.lease_us e.actor (own e.actor h) e.reading asked r time append → EventIsGrounded (e ∷ h) (Serve from asked r time append)
served_event config h e from asked r time append run is same flies served =
    let g : History = e ∷ h in
    let asked_is : RequestIsGrounded g asked = request_in h g asked (within_more e h) (flight_asked h (flight from h) e.actor asked flies (is.flights from)) in
    let low : IsGrounded g (floor_at e.event) = subst (λ (ev : Event). IsGrounded g (floor_at ev)) (sym same) (asked_floor g asked asked_is) in
    let time_is : TimeIsGrounded g time = option_time config h e time run (floors_of h e low is.entries) (ap time_of same) in
    let all : AllGrounded g (own e.actor h) = λ f m. event_in h g f.event (within_more e h) (is.entries f (own_member f e.actor h m)) in
    (asked_is, reply_grounded g config.lease_us e.actor (own e.actor h) e.reading asked r time append served all asked_is time_is, time_is)

next_event : (config : Config) (h : History) (e : Entry) (event : Event) → e.event ≡ event → Run config (e ∷ h) → State config h → Allowed config h e.actor e.reading event → EventIsGrounded (e ∷ h) event
next_event config h e (Start number line) same run is ok = tt
next_event config h e (Ask to asked) same run is ok =
    let m : MoverIsGrounded (e ∷ h) (mover_at config e.actor h) = mover_in h (e ∷ h) (mover_at config e.actor h) (within_more e h) (is.movers e.actor) in
    asks_grounded (e ∷ h) (mover_at config e.actor h).rest e.reading to asked ok.2 (own_reading h e e.reading refl) m.rest_is
next_event config h e (Serve from asked r time append) same run is ok = served_event config h e from asked r time append run is same ok.1 ok.2
next_event config h e (Hear from r) same run is ok = hears_grounded (e ∷ h) (flight e.actor h) from r ok.1 (flight_in h (e ∷ h) (flight e.actor h) (within_more e h) (is.flights e.actor))
next_event config h e (Tell number t) same run is ok =
    tells_grounded (e ∷ h) (mover_at config e.actor h) e.reading t ok.3 (own_reading h e e.reading refl) (mover_in h (e ∷ h) (mover_at config e.actor h) (within_more e h) (is.movers e.actor))
next_event config h e (Restarted from kept) same run is ok = tt

own_of : (h : History) (event : Event) → EventIsGrounded h event → OwnIsGrounded h event
own_of h (Hear from r) is = is
own_of h (Tell number t) is = is
own_of h (Start number line) is = tt
own_of h (Ask to asked) is = tt
own_of h (Serve from asked r time append) is = tt
own_of h (Restarted from kept) is = tt

next_movers : (config : Config) (h : History) (e : Entry) → State config h → EventIsGrounded (e ∷ h) e.event → (m : Actor) → MoverIsGrounded (e ∷ h) (mover_at config m (e ∷ h))
unfolding mover_at
next_movers config h e is event_is m =
    let before : MoverIsGrounded (e ∷ h) (mover_at config m h) = mover_in h (e ∷ h) (mover_at config m h) (within_more e h) (is.movers m) in
    elim (test_cases (same_actor e.actor m)) [
      | inl same ↦ rw same (mover_moves config (e ∷ h) m (mover_at config m h) e.reading e.event before (own_reading h e e.reading refl) (own_of (e ∷ h) e.event event_is))
      | inr other ↦ rw other before
    ]

flight_choice : (b : Bool) (h : History) (f g : Flight) → FlightIsGrounded h f → FlightIsGrounded h g → FlightIsGrounded h (if b then f else g)
flight_choice true h f g one two = one
flight_choice false h f g one two = two

flight_event : (h : History) (m a : Actor) (f : Flight) (event : Event) → EventIsGrounded h event → FlightIsGrounded h f → FlightIsGrounded h (flight_after m f a event)
flight_event h m a f (Start number line) is before = before
flight_event h m a f (Ask to asked) is before = flight_choice (same_actor a m) h (Asked to asked) f is before
flight_event h m a f (Serve from asked r time append) is before = flight_choice (same_actor from m) h (Answered a r) f is.1 before
flight_event h m a f (Hear from r) is before = flight_choice (same_actor a m) h Quiet f tt before
flight_event h m a f (Tell number t) is before = before
flight_event h m a f (Restarted from kept) is before = flight_choice (same_actor from m) h (Answered a (reply.Restarted kept)) f tt before

next_flights : (config : Config) (h : History) (e : Entry) → State config h → EventIsGrounded (e ∷ h) e.event → (m : Actor) → FlightIsGrounded (e ∷ h) (flight m (e ∷ h))
unfolding flight
next_flights config h e is event_is m = flight_event (e ∷ h) m e.actor (flight m h) e.event event_is (flight_in h (e ∷ h) (flight m h) (within_more e h) (is.flights m))

next_entries : (config : Config) (h : History) (e : Entry) → State config h → EventIsGrounded (e ∷ h) e.event → AllGrounded (e ∷ h) (e ∷ h)
next_entries config h e is event_is f m = elim m [
  | inl here ↦ subst (λ (g : Entry). EventIsGrounded (e ∷ h) g.event) (sym here) event_is
  | inr deeper ↦ event_in h (e ∷ h) f.event (within_more e h) (is.entries f deeper)
]

first_mover : (config : Config) (m : Actor) → MoverIsGrounded [] (mover_at config m [])
unfolding mover_at
first_mover config m = record { kept_is = record { last_is = zero_grounded []; open_is = tt }; reading_is = tt; rest_is = tt }

first_flight : (m : Actor) → FlightIsGrounded [] (flight m [])
unfolding flight
first_flight m = tt

allowed_of : (config : Config) (e : Entry) (h : History) → Steps config (e ∷ h) → Steps config h × Allowed config h e.actor e.reading e.event
unfolding Steps
allowed_of config e h steps = steps

state_of : (config : Config) (h : History) → IsCluster config → Steps config h → State config h
state_of config [] cluster steps = record { entries = λ e m. absurd m; movers = first_mover config; flights = first_flight }
state_of config (e ∷ h) cluster steps =
    let parts = allowed_of config e h steps in
    let is : State config h = state_of config h cluster parts.0 in
    let event_is : EventIsGrounded (e ∷ h) e.event = next_event config h e e.event refl (cluster, steps) is parts.1 in
    record { entries = next_entries config h e is event_is; movers = next_movers config h e is event_is; flights = next_flights config h e is event_is }

pub times_grounded : TimesAreGrounded
times_grounded config h before e run stands =
    let up_to : Steps config (e ∷ before) = steps_at config e before h run.1 stands in
    (state_of config (e ∷ before) run.0 up_to).entries e (inl refl)
