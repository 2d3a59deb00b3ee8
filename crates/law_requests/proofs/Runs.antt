-- What is asked may be served, in every run.
use Rattle.std.proofs.Common.{◌≡◌, ℕ, Bool, true, false, [], ◌∷◌, Option, Some, None, refl, sym, ◌∙◌, subst, inl, inr, if◌then◌else◌}
use Rattle.txn_data.specs.declared.actor.Actor.{Actor}
use Rattle.txn_data.specs.declared.append.Append.{Append}
use Rattle.txn_data.specs.declared.command.Command.{Command}
use Rattle.txn_data.specs.declared.config.Config.{Config}
use Rattle.txn_data.specs.declared.request.Request.{Request}
use Rattle.txn_data.specs.declared.reply.Reply.{Reply}
use Rattle.txn_data.specs.declared.reply.Reply.TheVariants as reply
use Rattle.txn_data.specs.declared.told.Told.{Told}
use Rattle.txn_data.specs.declared.event.Event.{Event}
use Rattle.txn_data.specs.declared.event.Event.TheVariants.{Start, Ask, Serve, Hear, Tell, Restarted}
use Rattle.txn_data.specs.declared.entry.Entry.{Entry}
use Rattle.txn_types.specs.History.{History, same_actor, own}
use Rattle.txn_types.specs.Plan.{IsCluster}
use Rattle.txn_types.specs.Program.{Program, Asks}
use Rattle.txn_types.specs.Run.{mover_at, Flight, Quiet, Asked, Answered, flight, flight_after, CanHear, Serves, Allowed, Steps, Run}
use Rattle.law_machines.proofs.Basics.{test_cases, same_true, filter_member}
use Rattle.law_messages.proofs.Flights.{asked_next, idle_quiet}
use Rattle.law_owners.proofs.Replies.{ReplyHomed, reply_homed}
use Rattle.law_owners.proofs.Runs.{requests_homed}
use Rattle.law_requests.specs.Laws.{RequestsMayBeServed, ServingIsAllowed}
use Rattle.law_requests.proofs.Programs.{Goes, IsAsked}
use Rattle.law_requests.proofs.Movers.{MoverFits, LineGoes, EventFits, mover_fits}

steps_before : (config : Config) (e : Entry) (h : History) → Steps config (e ∷ h) → Steps config h × Allowed config h e.actor e.reading e.event
unfolding Steps
steps_before config e h steps = steps

-- ## replies on their way name the status tablets of transactions

abbrev FlightFits : Config → Flight → Type 0
FlightFits config (Answered from r) = ReplyHomed config r
FlightFits config f = Unit {0}

flight_choice : (b : Bool) (config : Config) (f g : Flight) → FlightFits config f → FlightFits config g → FlightFits config (if b then f else g)
flight_choice true config f g one two = one
flight_choice false config f g one two = two

served_homed : (config : Config) (h : History) (a : Actor) (reading : Option ℕ) (asked : Request) (r : Reply) (time : Option ℕ) (append : Append) → Run config h → Serves config.lease_us a (own a h) reading asked r time append → ReplyHomed config r
served_homed config h a reading asked r time append run served =
    reply_homed config config.lease_us a (own a h) reading asked r time append served
    (λ e at. requests_homed config h e run (filter_member (λ (f : Entry). same_actor f.actor a) e h at).0)

flight_event : (config : Config) (h : History) (m a : Actor) (reading : Option ℕ) (event : Event) → Run config h → Allowed config h a reading event → FlightFits config (flight m h) → FlightFits config (flight_after m (flight m h) a event)
flight_event config h m a reading (Start number line) run is before = before
flight_event config h m a reading (Ask to asked) run is before = flight_choice (same_actor a m) config (Asked to asked) (flight m h) tt before
flight_event config h m a reading (Serve from asked r time append) run is before =
    flight_choice (same_actor from m) config (Answered a r) (flight m h) (served_homed config h a reading asked r time append run is.2) before
flight_event config h m a reading (Hear from r) run is before = flight_choice (same_actor a m) config Quiet (flight m h) tt before
flight_event config h m a reading (Tell number t) run is before = before
flight_event config h m a reading (Restarted from kept) run is before = flight_choice (same_actor from m) config (Answered a (reply.Restarted kept)) (flight m h) tt before

flights_fit : (config : Config) (m : Actor) (h : History) → IsCluster config → Steps config h → FlightFits config (flight m h)
unfolding flight
flights_fit config m [] cluster steps = tt
flights_fit config m (e ∷ h) cluster steps =
    let parts = steps_before config e h steps in
    flight_event config h m e.actor e.reading e.event (cluster, parts.0) parts.1 (flights_fit config m h cluster parts.0)

-- ## and so what a mover asks next may be served

heard_homed : (config : Config) (f : Flight) (from : Actor) (r : Reply) → CanHear f from r → FlightFits config f → ReplyHomed config r
heard_homed config Quiet from r can is = absurd can
heard_homed config (Asked to asked) from r can is = subst (ReplyHomed config) (sym can.1) tt
heard_homed config (Answered by answer) from r can is = subst (ReplyHomed config) (sym can.1) is

event_fits : (config : Config) (h : History) (a : Actor) (reading : Option ℕ) (event : Event) → IsCluster config → Steps config h → Allowed config h a reading event → EventFits config a (mover_at config a h) event
event_fits config h a reading (Start number line) cluster steps is = is.3
event_fits config h a reading (Hear from r) cluster steps is = heard_homed config (flight a h) from r is.1 (flights_fit config a h cluster steps)
event_fits config h a reading (Ask to asked) cluster steps is = tt
event_fits config h a reading (Tell number t) cluster steps is = tt
event_fits config h a reading (Serve from asked r time append) cluster steps is = tt
event_fits config h a reading (Restarted from kept) cluster steps is = tt

movers_fit : (config : Config) (m : Actor) (h : History) → IsCluster config → Steps config h → MoverFits config (mover_at config m h)
unfolding mover_at
movers_fit config m [] cluster steps = record { kept = tt; goes = tt }
movers_fit config m (e ∷ h) cluster steps =
    let parts = steps_before config e h steps in
    let before = movers_fit config m h cluster parts.0 in
    elim (test_cases (same_actor e.actor m)) [
      | inl mine ↦ rw mine (mover_fits config m (mover_at config m h) e.reading e.event cluster
          (event_fits config h m e.reading e.event cluster parts.0 (subst (λ (a : Actor). Allowed config h a e.reading e.event) (same_true e.actor m mine) parts.1)) before)
      | inr other ↦ rw other before
    ]

-- ## the laws

asked_goes : (config : Config) (line : Command) (to : Actor) (asked : Request) (next : Reply → Program Told) (p : Program Told) → p ≡ Asks to asked next → Goes config line p → IsAsked config line to asked
asked_goes config line to asked next p is goes = (subst (Goes config line) is goes).0

asked_line : (config : Config) (h : History) (m to : Actor) (asked : Request) (next : Reply → Program Told) (line : Option Command) → Run config h → (mover_at config m h).line ≡ line → flight m h ≡ Asked to asked →
    (mover_at config m h).rest ≡ Asks to asked next → LineGoes config line (mover_at config m h).rest → (l : Command) × (line ≡ Some l) × IsAsked config l to asked
asked_line config h m to asked next None run is flies rest goes = absurd (let never : Asked to asked ≡ Quiet = sym flies ∙ idle_quiet config h m run is in cc)
asked_line config h m to asked next (Some l) run is flies rest goes = (l, refl, asked_goes config l to asked next (mover_at config m h).rest rest goes.1)

pub may_be_served : RequestsMayBeServed
may_be_served config h m to asked run flies =
    let next = asked_next config h m to asked run flies in
    let found = asked_line config h m to asked next.0 (mover_at config m h).line run refl flies next.1 (movers_fit config m h run.0 run.1).goes in
    (found.0, found.1, found.2.0, found.2.1)

steps_more : (config : Config) (h : History) (a : Actor) (reading : Option ℕ) (event : Event) → Steps config h → Allowed config h a reading event → Steps config ((record { actor = a; reading = reading; event = event }) ∷ h)
unfolding Steps
steps_more config h a reading event steps is = (steps, is)

pub serving : ServingIsAllowed
serving config h m to asked reading r time append run flies served =
    (run.0, steps_more config h to reading (Serve m asked r time append) run.1 ((may_be_served config h m to asked run flies).3.machine, flies, served))
