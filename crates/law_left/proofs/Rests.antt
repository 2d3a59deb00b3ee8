-- Since no session has a command under way, machines serve passes alone.
use Rattle.std.proofs.Common.{◌≡◌, ℕ, [], ◌∷◌, ◌++◌, Option, Some, None, refl, sym, ◌∙◌, ap, subst, inl, inr, ◌⊎◌}
use Rattle.txn_data.specs.declared.actor.Actor.{Actor}
use Rattle.txn_data.specs.declared.actor.Actor.TheVariants.{Tablet, Status, Session, Applier}
use Rattle.txn_data.specs.declared.command.Command.{Command}
use Rattle.txn_data.specs.declared.config.Config.{Config}
use Rattle.txn_data.specs.declared.request.Request.{Request}
use Rattle.txn_data.specs.declared.request.Request.TheVariants as request
use Rattle.txn_data.specs.declared.reply.Reply.{Reply}
use Rattle.txn_data.specs.declared.told.Told.{Told}
use Rattle.txn_data.specs.declared.event.Event.{Event}
use Rattle.txn_data.specs.declared.event.Event.TheVariants.{Start, Ask, Serve, Hear, Tell, Restarted}
use Rattle.txn_data.specs.declared.entry.Entry.{Entry}
use Rattle.txn_types.specs.History.{History}
use Rattle.txn_types.specs.Program.{Program, Done, Asks, Reads, with_reading, heard}
use Rattle.txn_types.specs.Run.{Mover, MayStart, Allowed, Steps, Run, Flight, Quiet, Asked, flight, mover_at, mover_after, program_of}
use Rattle.law_machines.specs.Own.{StandsOver}
use Rattle.law_machines.proofs.Basics.{same_cases}
use Rattle.law_machines.proofs.Owns.{steps_at, run_until}
use Rattle.law_messages.proofs.Shapes.{Always, OfPasses, pass_always}
use Rattle.law_messages.proofs.Flights.{idle_quiet, asked_next}
use Rattle.law_courses.specs.Course.{IsPart}
use Rattle.law_courses.proofs.Parts.{part_tail, stands_part}
use Rattle.txn_promises.specs.Left.{SessionsRest, RestSince}

-- ## front parts

front_of : (low h : History) → IsPart low h → (later : History) × (h ≡ later ++ low)
unfolding IsPart
front_of low [] part = ([], sym part)
front_of low (e ∷ h) part = elim part [
  | inl is ↦ ([], sym is)
  | inr more ↦ let r = front_of low h more in (e ∷ r.0, ap (λ (l : History). e ∷ l) r.1)
]

pub rests_at : (config : Config) (low g h : History) → RestSince config low h → IsPart low g → IsPart g h → SessionsRest config g
rests_at config low g h rest one two =
    let here = front_of low g one in
    let later = front_of g h two in
    subst (λ (l : History). SessionsRest config l) (sym here.1) (rest later.0 here.0 (later.1 ∙ ap (λ (l : History). later.0 ++ l) here.1))

pub stands_in : (e : Entry) (b h : History) → StandsOver e b h → IsPart b h
stands_in e b h stands = part_tail e b h (stands_part e b h stands)

-- ## what movers that are no sessions ask

-- a request of a pass
abbrev pub OfPass : Request → Type 0
OfPass request.ListIntents = Unit {0}
OfPass (request.AskFate x t) = Unit {0}
OfPass (request.Apply x at) = Unit {0}
OfPass (request.Clean x) = Unit {0}
OfPass (request.Applied x tablet) = Unit {0}
OfPass asked = ⊥

of_passes : OfPasses OfPass
of_passes = record { lists = tt; asks = λ x t. tt; applies = λ x at. tt; cleans = λ x. tt; notes = λ x tablet. tt }

abbrev NoSession : Actor → Type 0
NoSession (Session i) = ⊥
NoSession m = Unit {0}

kind_of : (m : Actor) → ((i : ℕ) × (m ≡ Session i)) ⊎ NoSession m
kind_of (Session i) = inl (i, refl)
kind_of (Tablet k) = inr tt
kind_of (Status j) = inr tt
kind_of (Applier k) = inr tt

line_asks : (config : Config) (m : Actor) (s : Mover) (line : Command) → NoSession m → MayStart config m s line → Always OfPass (program_of config m s.keeps line)
line_asks config (Applier k) s line apart may = subst (λ (l : Command). Always OfPass (program_of config (Applier k) s.keeps l)) (sym may.1) (pass_always OfPass of_passes k)
line_asks config (Session i) s line apart may = absurd apart
line_asks config (Tablet k) s line apart may = absurd may
line_asks config (Status j) s line apart may = absurd may

reading_asks : (p : Program Told) (reading : Option ℕ) → Always OfPass p → Always OfPass (with_reading p reading)
reading_asks (Done t) reading asks = asks
reading_asks (Asks to asked next) reading asks = asks
reading_asks (Reads given) None asks = asks
reading_asks (Reads given) (Some n) asks = asks n

heard_asks : (p : Program Told) (r : Reply) → Always OfPass p → Always OfPass (heard p r)
heard_asks (Done t) r asks = asks
heard_asks (Asks to asked next) r asks = asks.1 r
heard_asks (Reads given) r asks = asks

own_asks : (config : Config) (h : History) (m : Actor) (s : Mover) (reading : Option ℕ) (event : Event) → mover_at config m h ≡ s → NoSession m → Allowed config h m reading event → Always OfPass s.rest →
    Always OfPass (mover_after config m s reading event).rest
own_asks config h m s reading (Start number line) same apart ok asks = line_asks config m s line apart (subst (λ (t : Mover). MayStart config m t line) same ok.3)
own_asks config h m s reading (Ask to asked) same apart ok asks = reading_asks s.rest reading asks
own_asks config h m s reading (Hear from r) same apart ok asks = heard_asks s.rest r asks
own_asks config h m s reading (Tell number t) same apart ok asks = tt
own_asks config h m s reading (Serve from asked r time append) same apart ok asks = asks
own_asks config h m s reading (Restarted from kept) same apart ok asks = asks

left_asks : (config : Config) (m : Actor) (h : History) → NoSession m → Steps config h → Always OfPass (mover_at config m h).rest
unfolding mover_at Steps
left_asks config m [] apart steps = tt
left_asks config m (e ∷ h) apart steps = elim (same_cases e.actor m) [
  | inl same ↦ rw same.0 (own_asks config h m (mover_at config m h) e.reading e.event refl apart (subst (λ (a : Actor). Allowed config h a e.reading e.event) same.1 steps.1) (left_asks config m h apart steps.0))
  | inr other ↦ rw other.0 (left_asks config m h apart steps.0)
]

-- ## what is served then

abbrev pub PassEvent : Event → Type 0
PassEvent (Serve from asked r time append) = OfPass asked
PassEvent (Restarted from kept) = ⊥
PassEvent event = Unit {0}

quiet_asks : (f : Flight) (to : Actor) (asked : Request) → f ≡ Quiet → f ≡ Asked to asked → ⊥
quiet_asks f to asked one two = cc

asked_pass : (config : Config) (h : History) (from to : Actor) (asked : Request) → Run config h → SessionsRest config h → flight from h ≡ Asked to asked → OfPass asked
asked_pass config h from to asked run rest is = elim (kind_of from) [
  | inl s ↦ absurd (quiet_asks (flight (Session s.0) h) to asked (idle_quiet config h (Session s.0) run (rest s.0)) (subst (λ (m : Actor). flight m h ≡ Asked to asked) s.1 is))
  | inr apart ↦
      let next = asked_next config h from to asked run is in
      let asks : Always OfPass (Asks to asked next.0) = subst (λ (p : Program Told). Always OfPass p) next.1 (left_asks config from h apart run.1) in
      asks.0
]

event_pass : (config : Config) (h : History) (a : Actor) (reading : Option ℕ) (event : Event) → Run config h → SessionsRest config h → Allowed config h a reading event → PassEvent event
event_pass config h a reading (Serve from asked r time append) run rest ok = asked_pass config h from a asked run rest ok.1
event_pass config h a reading (Restarted from kept) run rest ok = asked_pass config h from a request.Restart run rest ok.1
event_pass config h a reading (Start number line) run rest ok = tt
event_pass config h a reading (Ask to asked) run rest ok = tt
event_pass config h a reading (Hear from r) run rest ok = tt
event_pass config h a reading (Tell number t) run rest ok = tt

pub pass_only : (config : Config) (h low : History) (e : Entry) (b : History) → Run config h → RestSince config low h → StandsOver e b h → IsPart low b → PassEvent e.event
unfolding Steps
pass_only config h low e b run rest stands part =
    let up_to : Steps config (e ∷ b) = steps_at config e b h run.1 stands in
    event_pass config b e.actor e.reading e.event (run_until config h b e run stands) (rests_at config low b h rest part (stands_in e b h stands)) up_to.1
