-- What is told was given by lines, in every run.
use Rattle.std.proofs.Common.{◌≡◌, ℕ, Bool, true, false, List, [], ◌∷◌, Option, Some, flat_map, filter, nat_eq, refl, sym, subst, inl, inr, if◌then◌else◌}
use Rattle.doc_path.specs.Path.{Parts}
use Rattle.txn_data.specs.declared.actor.Actor.{Actor}
use Rattle.txn_data.specs.declared.actor.Actor.TheVariants.{Tablet, Status, Session, Applier}
use Rattle.txn_data.specs.declared.append.Append.{Append}
use Rattle.txn_data.specs.declared.command.Command.{Command}
use Rattle.txn_data.specs.declared.command.Command.TheVariants as command
use Rattle.txn_data.specs.declared.config.Config.{Config}
use Rattle.txn_data.specs.declared.op.Op.{Op}
use Rattle.txn_data.specs.declared.place.Place.{Place}
use Rattle.txn_data.specs.declared.request.Request.{Request}
use Rattle.txn_data.specs.declared.request.Request.TheVariants as request
use Rattle.txn_data.specs.declared.reply.Reply.{Reply}
use Rattle.txn_data.specs.declared.reply.Reply.TheVariants as reply
use Rattle.txn_data.specs.declared.event.Event.{Event}
use Rattle.txn_data.specs.declared.event.Event.TheVariants.{Start, Ask, Serve, Hear, Tell, Restarted}
use Rattle.txn_data.specs.declared.entry.Entry.{Entry}
use Rattle.txn_types.specs.Lists.{Member}
use Rattle.txn_types.specs.History.{History, same_actor, own}
use Rattle.txn_types.specs.ReadProgram.{paths_on}
use Rattle.txn_types.specs.Plan.{IsCluster, places_of, started_places}
use Rattle.txn_types.specs.Run.{mover_at, Flight, Quiet, Asked, Answered, flight, flight_after, CanHear, Serves, IsMachine, Allowed, Steps, Run}
use Rattle.law_machines.proofs.Basics.{test_cases, member_left, map_member, filter_member}
use Rattle.law_machines.proofs.Owns.{steps_at}
use Rattle.law_requests.specs.Requests.{IsNamed, Sets, IsOfLine}
use Rattle.law_owners.specs.Owner.{IsOfTable}
use Rattle.law_requests.proofs.Runs.{may_be_served}
use Rattle.law_told_values.specs.Given.{started_values, PathIsGiven, EventIsGiven, WhatIsToldWasGiven}
use Rattle.law_told_values.proofs.Grounds.{Within, within_more, path_in, rows_in, op_in, OpIsGiven}
use Rattle.law_told_values.proofs.Tables.{PathsGiven, RequestIsGiven, ReplyIsGiven, ServeIsGiven, AllGiven, reply_given}
use Rattle.law_told_values.proofs.Programs.{LineIsGiven}
use Rattle.law_told_values.proofs.Movers.{MoverIsGiven, UnderWayIsGiven, OwnIsGiven, mover_in, mover_moves, tells_given}

-- ## it stays

request_in : (h g : History) (asked : Request) → Within h g → RequestIsGiven h asked → RequestIsGiven g asked
request_in h g (request.Write meta number path o read seen fates) on is = (path_in h g path on is.0, op_in h g o on is.1)
request_in h g (request.Single x path o seen fates) on is = (path_in h g path on is.0, op_in h g o on is.1)
request_in h g (request.Collect own_txn kind paths t window fates) on is = λ p m. path_in h g p on (is p m)
request_in h g asked on is = tt

serve_in : (h g : History) (event : Event) → Within h g → ServeIsGiven h event → ServeIsGiven g event
serve_in h g (Serve from asked r time append) on is = request_in h g asked on is
serve_in h g (Start number line) on is = tt
serve_in h g (Ask to asked) on is = tt
serve_in h g (Hear from r) on is = tt
serve_in h g (Tell number t) on is = tt
serve_in h g (Restarted from kept) on is = tt

reply_in : (h g : History) (r : Reply) → Within h g → ReplyIsGiven h r → ReplyIsGiven g r
reply_in h g (reply.Collected rows) on is = rows_in h g rows on is
reply_in h g (reply.Met at path) on is = path_in h g path on is
reply_in h g r on is = tt

abbrev FlightIsGiven : History → Flight → Type 0
FlightIsGiven h (Answered from r) = ReplyIsGiven h r
FlightIsGiven h f = Unit {0}

flight_in : (h g : History) (f : Flight) → Within h g → FlightIsGiven h f → FlightIsGiven g f
flight_in h g Quiet on is = tt
flight_in h g (Asked to asked) on is = tt
flight_in h g (Answered from r) on is = reply_in h g r on is

-- ## a request is of a line that was started

value_of_op : (h : History) (line : Command) (o : Op) → LineIsGiven h line → Sets line o → OpIsGiven h o
value_of_op h (command.Put place v) o is sets = subst (OpIsGiven h) (sym sets) (is.values v (inl refl))
value_of_op h (command.Del place) o is sets = subst (OpIsGiven h) (sym sets) tt
value_of_op h (command.SinglePut place v priority) o is sets = subst (OpIsGiven h) (sym sets) (is.values v (inl refl))
value_of_op h (command.SingleDel place priority) o is sets = subst (OpIsGiven h) (sym sets) tt
value_of_op h line o is sets = absurd sets

named_path : (h : History) (line : Command) (k : ℕ) (path : Parts) → LineIsGiven h line → IsNamed line k path → PathIsGiven h path
named_path h line k path is named = subst (PathIsGiven h) named.3 (is.places named.0 named.1)

line_paths : (h : History) (line : Command) (k : ℕ) (paths : List Parts) → LineIsGiven h line → paths ≡ paths_on k (places_of line) → PathsGiven h paths
line_paths h line k paths is same = λ p m.
    let from = map_member (λ (q : Place). q.path) p (filter (λ (q : Place). nat_eq q.tablet k) (places_of line)) (subst (λ (ps : List Parts). Member p ps) same m) in
    subst (PathIsGiven h) (sym from.2) (is.places from.0 (filter_member (λ (q : Place). nat_eq q.tablet k) from.0 (places_of line) from.1).0)

tablet_request : (h : History) (line : Command) (k : ℕ) (asked : Request) → LineIsGiven h line → IsOfLine line (Tablet k) asked → RequestIsGiven h asked
tablet_request h line k (request.Write meta number path o read seen fates) is of = (named_path h line k path is of.0, value_of_op h line o is of.1)
tablet_request h line k (request.Single x path o seen fates) is of = (named_path h line k path is of.0, value_of_op h line o is of.1)
tablet_request h line k (request.Collect own_txn kind paths t window fates) is of = line_paths h line k paths is of
tablet_request h line k asked is of = tt

status_request : (h : History) (j : ℕ) (asked : Request) → IsOfTable (Status j) asked → RequestIsGiven h asked
status_request h j (request.Write meta number path o read seen fates) table = absurd table
status_request h j (request.Single x path o seen fates) table = absurd table
status_request h j (request.Collect own_txn kind paths t window fates) table = absurd table
status_request h j asked table = tt

line_request : (config : Config) (h : History) (a : Actor) (line : Command) (asked : Request) → LineIsGiven h line → IsOfLine line a asked → IsMachine config a → IsOfTable a asked → RequestIsGiven h asked
line_request config h (Tablet k) line asked is of there table = tablet_request h line k asked is of
line_request config h (Status j) line asked is of there table = status_request h j asked table
line_request config h (Session i) line asked is of there table = absurd there
line_request config h (Applier k) line asked is of there table = absurd there

under_way : (h : History) (o : Option Command) (line : Command) → o ≡ Some line → UnderWayIsGiven h o → LineIsGiven h line
under_way h o line is given = subst (UnderWayIsGiven h) is given

-- ## all entries, all movers and all messages

record State (config : Config) (h : History) : Type 0 where
  pub entries : AllGiven h h
  pub movers : (m : Actor) → MoverIsGiven h (mover_at config m h)
  pub flights : (m : Actor) → FlightIsGiven h (flight m h)

served_request : (config : Config) (h : History) (e : Entry) (from : Actor) (asked : Request) → Run config h → State config h → flight from h ≡ Asked e.actor asked → RequestIsGiven h asked
served_request config h e from asked run is flies =
    let may = may_be_served config h from e.actor asked run flies in
    line_request config h e.actor may.0 asked (under_way h (mover_at config from h).line may.0 may.1 (is.movers from).line_is) may.2 may.3.machine may.3.table

-- what a start gives
starts_given : (h : History) (e : Entry) (number : ℕ) (line : Command) → e.event ≡ Start number line → LineIsGiven (e ∷ h) line
starts_given h e number line is = record {
  places = λ p m. (p, member_left p (started_places e.event) (flat_map (λ (f : Entry). started_places f.event) h) (subst (λ (v : Event). Member p (started_places v)) (sym is) m), refl);
  values = λ v m. member_left v (started_values e.event) (flat_map (λ (f : Entry). started_values f.event) h) (subst (λ (u : Event). Member v (started_values u)) (sym is) m);
}

heard_given : (h : History) (f : Flight) (from : Actor) (r : Reply) → CanHear f from r → FlightIsGiven h f → ReplyIsGiven h r
heard_given h Quiet from r can is = absurd can
heard_given h (Asked to asked) from r can is = subst (ReplyIsGiven h) (sym can.1) tt
heard_given h (Answered by answer) from r can is = subst (ReplyIsGiven h) (sym can.1) is

own_given : (config : Config) (h : History) (e : Entry) (event : Event) → e.event ≡ event → State config h → Allowed config h e.actor e.reading event → OwnIsGiven (e ∷ h) event
own_given config h e (Start number line) same is ok = starts_given h e number line same
own_given config h e (Hear from r) same is ok = reply_in h (e ∷ h) r (within_more e h) (heard_given h (flight e.actor h) from r ok.1 (is.flights e.actor))
own_given config h e (Ask to asked) same is ok = tt
own_given config h e (Tell number t) same is ok = tt
own_given config h e (Serve from asked r time append) same is ok = tt
own_given config h e (Restarted from kept) same is ok = tt

next_serve : (config : Config) (h : History) (e : Entry) (event : Event) → Run config h → State config h → Allowed config h e.actor e.reading event → ServeIsGiven h event
next_serve config h e (Serve from asked r time append) run is ok = served_request config h e from asked run is ok.1
next_serve config h e (Start number line) run is ok = tt
next_serve config h e (Ask to asked) run is ok = tt
next_serve config h e (Hear from r) run is ok = tt
next_serve config h e (Tell number t) run is ok = tt
next_serve config h e (Restarted from kept) run is ok = tt

next_entries : (config : Config) (h : History) (e : Entry) → State config h → ServeIsGiven h e.event → AllGiven (e ∷ h) (e ∷ h)
next_entries config h e is serve f m = elim m [
  | inl here ↦ subst (λ (g : Entry). ServeIsGiven (e ∷ h) g.event) (sym here) (serve_in h (e ∷ h) e.event (within_more e h) serve)
  | inr deeper ↦ serve_in h (e ∷ h) f.event (within_more e h) (is.entries f deeper)
]

next_movers : (config : Config) (h : History) (e : Entry) → State config h → OwnIsGiven (e ∷ h) e.event → (m : Actor) → MoverIsGiven (e ∷ h) (mover_at config m (e ∷ h))
unfolding mover_at
next_movers config h e is own_is m =
    let before : MoverIsGiven (e ∷ h) (mover_at config m h) = mover_in h (e ∷ h) (mover_at config m h) (within_more e h) (is.movers m) in
    elim (test_cases (same_actor e.actor m)) [
      | inl same ↦ rw same (mover_moves config (e ∷ h) m (mover_at config m h) e.reading e.event own_is before)
      | inr other ↦ rw other before
    ]

flight_choice : (b : Bool) (h : History) (f g : Flight) → FlightIsGiven h f → FlightIsGiven h g → FlightIsGiven h (if b then f else g)
flight_choice true h f g one two = one
flight_choice false h f g one two = two

served_reply : (config : Config) (h : History) (a : Actor) (reading : Option ℕ) (asked : Request) (r : Reply) (time : Option ℕ) (append : Append) → State config h → RequestIsGiven h asked → Serves config.lease_us a (own a h) reading asked r time append → ReplyIsGiven h r
served_reply config h a reading asked r time append is asked_is served =
    reply_given h config.lease_us a (own a h) reading asked r time append served (λ f m. is.entries f (filter_member (λ (g : Entry). same_actor g.actor a) f h m).0) asked_is

flight_event : (config : Config) (h : History) (e : Entry) (m : Actor) (event : Event) → Run config h → State config h → Allowed config h e.actor e.reading event → FlightIsGiven (e ∷ h) (flight_after m (flight m h) e.actor event)
flight_event config h e m (Start number line) run is ok = flight_in h (e ∷ h) (flight m h) (within_more e h) (is.flights m)
flight_event config h e m (Ask to asked) run is ok = flight_choice (same_actor e.actor m) (e ∷ h) (Asked to asked) (flight m h) tt (flight_in h (e ∷ h) (flight m h) (within_more e h) (is.flights m))
flight_event config h e m (Serve from asked r time append) run is ok =
    flight_choice (same_actor from m) (e ∷ h) (Answered e.actor r) (flight m h)
    (reply_in h (e ∷ h) r (within_more e h) (served_reply config h e.actor e.reading asked r time append is (served_request config h e from asked run is ok.1) ok.2))
    (flight_in h (e ∷ h) (flight m h) (within_more e h) (is.flights m))
flight_event config h e m (Hear from r) run is ok = flight_choice (same_actor e.actor m) (e ∷ h) Quiet (flight m h) tt (flight_in h (e ∷ h) (flight m h) (within_more e h) (is.flights m))
flight_event config h e m (Tell number t) run is ok = flight_in h (e ∷ h) (flight m h) (within_more e h) (is.flights m)
flight_event config h e m (Restarted from kept) run is ok = flight_choice (same_actor from m) (e ∷ h) (Answered e.actor (reply.Restarted kept)) (flight m h) tt (flight_in h (e ∷ h) (flight m h) (within_more e h) (is.flights m))

next_flights : (config : Config) (h : History) (e : Entry) → Run config h → State config h → Allowed config h e.actor e.reading e.event → (m : Actor) → FlightIsGiven (e ∷ h) (flight m (e ∷ h))
unfolding flight
next_flights config h e run is ok m = flight_event config h e m e.event run is ok

first_mover : (config : Config) (m : Actor) → MoverIsGiven [] (mover_at config m [])
unfolding mover_at
first_mover config m = record { open_is = tt; line_is = tt; rest_is = tt }

first_flight : (m : Actor) → FlightIsGiven [] (flight m [])
unfolding flight
first_flight m = tt

steps_before : (config : Config) (e : Entry) (h : History) → Steps config (e ∷ h) → Steps config h × Allowed config h e.actor e.reading e.event
unfolding Steps
steps_before config e h steps = steps

state_of : (config : Config) (h : History) → IsCluster config → Steps config h → State config h
state_of config [] cluster steps = record { entries = λ e m. absurd m; movers = first_mover config; flights = first_flight }
state_of config (e ∷ h) cluster steps =
    let parts = steps_before config e h steps in
    let is = state_of config h cluster parts.0 in
    record {
      entries = next_entries config h e is (next_serve config h e e.event (cluster, parts.0) is parts.1);
      movers = next_movers config h e is (own_given config h e e.event refl is parts.1);
      flights = next_flights config h e (cluster, parts.0) is parts.1;
    }

-- ## the law

event_given : (config : Config) (h : History) (a : Actor) (reading : Option ℕ) (event : Event) → State config h → Allowed config h a reading event → EventIsGiven h event
event_given config h a reading (Tell number t) is ok = tells_given h (mover_at config a h) reading t ok.3 (is.movers a)
event_given config h a reading (Start number line) is ok = tt
event_given config h a reading (Ask to asked) is ok = tt
event_given config h a reading (Serve from asked r time append) is ok = tt
event_given config h a reading (Hear from r) is ok = tt
event_given config h a reading (Restarted from kept) is ok = tt

pub told_given : WhatIsToldWasGiven
told_given config h before e run stands =
    let parts = steps_before config e before (steps_at config e before h run.1 stands) in
    event_given config before e.actor e.reading e.event (state_of config before run.0 parts.0) parts.1
