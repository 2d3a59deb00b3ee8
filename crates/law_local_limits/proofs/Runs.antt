-- Each limit that a listing read gives was fixed before, in every run.
use Rattle.std.proofs.Common.{◌≡◌, ℕ, ◌<◌, Bool, true, false, ◌&&◌, List, [], ◌∷◌, Option, Some, None, refl, sym, subst, inl, inr}
use Rattle.doc_path.specs.Path.{Parts}
use Rattle.txn_data.specs.declared.actor.Actor.{Actor}
use Rattle.txn_data.specs.declared.actor.Actor.TheVariants.{Tablet, Status, Session, Applier}
use Rattle.txn_data.specs.declared.append.Append.{Append}
use Rattle.txn_data.specs.declared.command.Command.{Command}
use Rattle.txn_data.specs.declared.command.Command.TheVariants as command
use Rattle.txn_data.specs.declared.config.Config.{Config}
use Rattle.txn_data.specs.declared.request.Request.{Request}
use Rattle.txn_data.specs.declared.request.Request.TheVariants as request
use Rattle.txn_data.specs.declared.reply.Reply.{Reply}
use Rattle.txn_data.specs.declared.reply.Reply.TheVariants as reply
use Rattle.txn_data.specs.declared.tablet_limit.TabletLimit.{TabletLimit}
use Rattle.txn_data.specs.declared.told.Told.{Told}
use Rattle.txn_data.specs.declared.event.Event.{Event}
use Rattle.txn_data.specs.declared.event.Event.TheVariants.{Start, Ask, Serve, Hear, Tell, Restarted}
use Rattle.txn_data.specs.declared.entry.Entry.{Entry}
use Rattle.txn_types.specs.Lists.{Member}
use Rattle.txn_types.specs.History.{History, same_actor, own, is_start}
use Rattle.txn_types.specs.Program.{Program, Done, Asks, Reads, with_reading, heard}
use Rattle.txn_types.specs.Reads.{open_txn, before_start}
use Rattle.txn_types.specs.Session.{Keeps, Opened}
use Rattle.txn_types.specs.Run.{Run, Steps, Allowed, Serves, Mover, mover_at, mover_after, program_of, limits_of, Flight, Quiet, Asked, Answered, flight, flight_after}
use Rattle.law_machines.proofs.Basics.{same_cases, same_refl}
use Rattle.law_machines.proofs.Owns.{steps_at, member_stands, stands_member, stands_trans}
use Rattle.law_clocks.specs.Laws.{Listing}
use Rattle.law_clocks.proofs.Runs.{listings_reach, listings_promise, member_before}
use Rattle.law_messages.proofs.Rules.{entry}
use Rattle.law_messages.proofs.Shapes.{Always}
use Rattle.law_messages.proofs.Flights.{idle_quiet, asked_next}
use Rattle.law_courses.specs.Course.{IsPart, entry_of}
use Rattle.law_steady_reads.proofs.FinalTimes.{part_start}
use Rattle.law_steady_reads.proofs.Steady.{part_origin}
use Rattle.law_windows.proofs.Windows.{WindowOf, begin_still, not_again, windows_at}
use Rattle.law_local_limits.specs.Laws.{WasFixed, low_of, IsFixed, GivenLimitsWereFixed, ListingsPromiseTheirLimits}
use Rattle.law_local_limits.proofs.Programs.{On, IsAskedSo, limits_on, OpenLimits, NoListing, pass_none}
use Rattle.law_local_limits.proofs.Movers.{FlightIsSo, MoverIsSo, stays, starts, asks, hears_reply, tells, asked_of, replied_so}

-- ## what was fixed stays so

pub start_still : (m : Actor) (e : Entry) (h : History) → (same_actor e.actor m && is_start e.event) ≡ false → before_start m (e ∷ h) ≡ before_start m h
unfolding before_start
start_still m e h is = rw is refl

low_still : (config : Config) (h : History) (i : ℕ) (o : Option Opened) (e : Entry) → Run config h → Run config (e ∷ h) → WindowOf config h i o → (o ≡ None → (same_actor e.actor (Session i) && is_start e.event) ≡ false) →
    low_of (Session i) (e ∷ h) (open_txn o) ≡ low_of (Session i) h (open_txn o)
low_still config h i None e before run has quiet = start_still (Session i) e h (quiet refl)
low_still config h i (Some x) e before run has quiet = begin_still x.meta.txn e h (not_again config h e.actor e.reading e.event x.meta.txn has.at before run has.began)

on_low : (m : Actor) (o : Option Opened) (h : History) (e : Entry) → low_of m (e ∷ h) (open_txn o) ≡ low_of m h (open_txn o) → On m o h (e ∷ h)
on_low m o h e same a g l was = record {
  paths = was.paths;
  t = was.t;
  others = was.others;
  reading = was.reading;
  now = was.now;
  append = was.append;
  before = was.before;
  stands = inr was.stands;
  later = subst (λ (z : History). IsPart z was.before) (sym same) was.later;
}

low_part : (m : Actor) (h : History) (own_txn : Option ℕ) → IsPart (low_of m h own_txn) h
low_part m h None = part_start m h
low_part m h (Some x) = part_origin (record { session = 0; before = h; at = 0; restarts = 0; rows = [] }) (Some x)

-- ## one more entry

abbrev StateAt : Config → History → ℕ → Type 0
StateAt config h i = MoverIsSo h (Session i) (mover_at config (Session i) h) (flight (Session i) h)

kept_start : (config : Config) (h : History) (i : ℕ) (o : Option Opened) (ls : List TabletLimit) (e : Entry) → Run config h → Run config (e ∷ h) → WindowOf config h i o → OpenLimits h (Session i) o ls → OpenLimits (e ∷ h) (Session i) o ls
kept_start config h i None ls e before run has are = tt
kept_start config h i (Some x) ls e before run has are = limits_on (Session i) (Some x) h (e ∷ h) x.g ls (on_low (Session i) (Some x) h e (low_still config h i (Some x) e before run has (λ none. cc))) are

not_start : (b : Bool) → (b && false) ≡ false
not_start true = refl
not_start false = refl

quiet_on : (config : Config) (h : History) (i : ℕ) (e : Entry) → Run config h → Run config (e ∷ h) → (same_actor e.actor (Session i) && is_start e.event) ≡ false → On (Session i) (mover_at config (Session i) h).keeps.opened h (e ∷ h)
quiet_on config h i e before run quiet =
    on_low (Session i) (mover_at config (Session i) h).keeps.opened h e (low_still config h i (mover_at config (Session i) h).keeps.opened e before run (windows_at config h i before) (λ none. quiet))

own_event : (config : Config) (h : History) (i : ℕ) (reading : Option ℕ) (event : Event) → Run config h → Run config (entry (Session i) reading event ∷ h) → Allowed config h (Session i) reading event → StateAt config h i →
    MoverIsSo (entry (Session i) reading event ∷ h) (Session i) (mover_after config (Session i) (mover_at config (Session i) h) reading event) (flight_after (Session i) (flight (Session i) h) (Session i) event)
own_event config h i reading (Start number line) before run allowed is =
    let m = Session i in
    let s = mover_at config m h in
    let e = entry m reading (Start number line) in
    let quiet : flight m h ≡ Quiet = idle_quiet config h m before allowed.0 in
    subst (λ (f : Flight). MoverIsSo (e ∷ h) m (mover_after config m s reading (Start number line)) f) (sym quiet)
    (starts config (e ∷ h) i number line reading s (kept_start config h i s.keeps.opened (limits_of s.keeps.opened) e before run (windows_at config h i before) is.kept))
own_event config h i reading (Ask to asked) before run allowed is =
    let m = Session i in
    let s = mover_at config m h in
    let e = entry m reading (Ask to asked) in
    let on = quiet_on config h i e before run (not_start (same_actor m m)) in
    rw (same_refl m) (asks config (e ∷ h) i reading s (flight m h) to asked (stays m h (e ∷ h) s (flight m h) on is))
own_event config h i reading (Hear from r) before run allowed is =
    let m = Session i in
    let s = mover_at config m h in
    let e = entry m reading (Hear from r) in
    let on = quiet_on config h i e before run (not_start (same_actor m m)) in
    rw (same_refl m) (hears_reply config (e ∷ h) i reading s (flight m h) from r allowed.1 (stays m h (e ∷ h) s (flight m h) on is))
own_event config h i reading (Tell number t) before run allowed is =
    let m = Session i in
    let s = mover_at config m h in
    let e = entry m reading (Tell number t) in
    let on = quiet_on config h i e before run (not_start (same_actor m m)) in
    subst (λ (f : Flight). MoverIsSo (e ∷ h) m (mover_after config m s reading (Tell number t)) f) (sym allowed.1)
    (tells config (e ∷ h) i reading s (flight m h) number t (stays m h (e ∷ h) s (flight m h) on is))
own_event config h i reading (Serve from asked r time append) before run allowed is = absurd allowed.0
own_event config h i reading (Restarted from kept) before run allowed is = absurd allowed.0

-- a machine answers the session
with_flight : (g : History) (m : Actor) (s : Mover) (f new : Flight) → MoverIsSo g m s f → FlightIsSo g m s.keeps.opened s.rest new → MoverIsSo g m s new
with_flight g m s f new is flies = record { kept = is.kept; known = is.known; rest = is.rest; flies = flies }

answered_so : (config : Config) (h : History) (i : ℕ) (a : Actor) (reading : Option ℕ) (asked : Request) (r : Reply) (time : Option ℕ) (append : Append) → Run config h → Run config (entry a reading (Serve (Session i) asked r time append) ∷ h) →
    On (Session i) (mover_at config (Session i) h).keeps.opened h (entry a reading (Serve (Session i) asked r time append) ∷ h) → flight (Session i) h ≡ Asked a asked → Serves config.lease_us a (own a h) reading asked r time append → StateAt config h i →
    FlightIsSo (entry a reading (Serve (Session i) asked r time append) ∷ h) (Session i) (mover_at config (Session i) h).keeps.opened (mover_at config (Session i) h).rest (Answered a r)
answered_so config h i a reading asked r time append before run on flies served is =
    let m = Session i in
    let s = mover_at config m h in
    let o = s.keeps.opened in
    let e = entry a reading (Serve m asked r time append) in
    let next = asked_next config h m a asked before flies in
    let low : low_of m (e ∷ h) (open_txn o) ≡ low_of m h (open_txn o) = low_still config h i o e before run (windows_at config h i before) (λ none. not_start (same_actor a m)) in
    (asked, (next.0, next.1, replied_so config.lease_us h m a o reading asked r time append on (subst (λ (z : History). IsPart z h) (sym low) (low_part m h (open_txn o))) served (asked_of h m o s.rest a asked next.0 next.1 is.rest)))

other_event : (config : Config) (h : History) (i : ℕ) (a : Actor) (reading : Option ℕ) (event : Event) → same_actor a (Session i) ≡ false → Run config h → Run config (entry a reading event ∷ h) → Allowed config h a reading event → StateAt config h i →
    MoverIsSo (entry a reading event ∷ h) (Session i) (mover_at config (Session i) h) (flight_after (Session i) (flight (Session i) h) a event)
other_event config h i a reading event other before run allowed is =
    next_flight event (stays m h (entry a reading event ∷ h) s (flight m h) (on event run) is) run allowed
  where
    m : Actor
    m = Session i

    s : Mover
    s = mover_at config (Session i) h

    on : (ev : Event) → Run config (entry a reading ev ∷ h) → On (Session i) (mover_at config (Session i) h).keeps.opened h (entry a reading ev ∷ h)
    on ev run = quiet_on config h i (entry a reading ev) before run (rw other refl)

    next_flight : (ev : Event) → MoverIsSo (entry a reading ev ∷ h) (Session i) (mover_at config (Session i) h) (flight (Session i) h) → Run config (entry a reading ev ∷ h) → Allowed config h a reading ev →
        MoverIsSo (entry a reading ev ∷ h) (Session i) (mover_at config (Session i) h) (flight_after (Session i) (flight (Session i) h) a ev)
    next_flight (Start number line) now run allowed = now
    next_flight (Ask to asked) now run allowed = rw other now
    next_flight (Hear from r) now run allowed = rw other now
    next_flight (Tell number t) now run allowed = now
    next_flight (Serve from asked r time append) now run allowed = elim (same_cases from (Session i)) [
      | inl mine ↦ rw mine.0 (with_flight (entry a reading (Serve from asked r time append) ∷ h) (Session i) (mover_at config (Session i) h) (flight (Session i) h) (Answered a r) now
          (subst (λ (b : Actor). FlightIsSo (entry a reading (Serve b asked r time append) ∷ h) (Session i) (mover_at config (Session i) h).keeps.opened (mover_at config (Session i) h).rest (Answered a r)) (sym mine.1)
          (answered_so config h i a reading asked r time append before (subst (λ (b : Actor). Run config (entry a reading (Serve b asked r time append) ∷ h)) mine.1 run)
          (on (Serve (Session i) asked r time append) (subst (λ (b : Actor). Run config (entry a reading (Serve b asked r time append) ∷ h)) mine.1 run)) (subst (λ (b : Actor). flight b h ≡ Asked a asked) mine.1 allowed.1) allowed.2 is)))
      | inr not ↦ rw not.0 now
    ]
    next_flight (Restarted from kept) now run allowed = elim (same_cases from (Session i)) [
      | inl mine ↦
          let next = asked_next config h (Session i) a request.Restart before (subst (λ (b : Actor). flight b h ≡ Asked a request.Restart) mine.1 allowed.1) in
          rw mine.0 (with_flight (entry a reading (Restarted from kept) ∷ h) (Session i) (mover_at config (Session i) h) (flight (Session i) h) (Answered a (reply.Restarted kept)) now
          (request.Restart, (next.0, next.1, tt)))
      | inr not ↦ rw not.0 now
    ]

state_at : (config : Config) (h : History) (i : ℕ) → Run config h → StateAt config h i
unfolding mover_at flight Steps
state_at config [] i run = record { kept = tt; known = tt; rest = tt; flies = tt }
state_at config (e ∷ h) i run =
    let before : Run config h = (run.0, run.1.0) in
    let is : StateAt config h i = state_at config h i before in
    elim (same_cases e.actor (Session i)) [
      | inl s ↦ rw s.0 (subst (λ (a : Actor). MoverIsSo (entry a e.reading e.event ∷ h) (Session i) (mover_after config (Session i) (mover_at config (Session i) h) e.reading e.event) (flight_after (Session i) (flight (Session i) h) a e.event)) (sym s.1)
          (own_event config h i e.reading e.event before (subst (λ (a : Actor). Run config (entry a e.reading e.event ∷ h)) s.1 run) (subst (λ (a : Actor). Allowed config h a e.reading e.event) s.1 run.1.1) is))
      | inr s ↦ rw s.0 (other_event config h i e.actor e.reading e.event s.0 before run run.1.1 is)
    ]

-- ## what is no session lists nothing

abbrev NoSession : Actor → Type 0
NoSession (Session i) = ⊥
NoSession a = Unit {0}

quiet_program : (config : Config) (a : Actor) (s : Keeps) (line : Command) → NoSession a → Always NoListing (program_of config a s line)
quiet_program config (Session i) s line none = absurd none
quiet_program config (Applier k) s (command.Apply tablet) none = pass_none tablet
quiet_program config (Applier k) s line none = tt
quiet_program config (Tablet k) s (command.Apply tablet) none = pass_none tablet
quiet_program config (Tablet k) s line none = tt
quiet_program config (Status k) s (command.Apply tablet) none = pass_none tablet
quiet_program config (Status k) s line none = tt

quiet_read : (p : Program Told) (reading : Option ℕ) → Always NoListing p → Always NoListing (with_reading p reading)
quiet_read (Done t) reading is = is
quiet_read (Asks to asked next) reading is = is
quiet_read (Reads given) None is = is
quiet_read (Reads given) (Some r) is = is r

quiet_heard : (p : Program Told) (r : Reply) → Always NoListing p → Always NoListing (heard p r)
quiet_heard (Done t) r is = is
quiet_heard (Asks to asked next) r is = is.1 r
quiet_heard (Reads given) r is = is

quiet_event : (config : Config) (a : Actor) (s : Mover) (reading : Option ℕ) (event : Event) → NoSession a → Always NoListing s.rest → Always NoListing (mover_after config a s reading event).rest
quiet_event config a s reading (Start number line) none is = quiet_program config a s.keeps line none
quiet_event config a s reading (Ask to asked) none is = quiet_read s.rest reading is
quiet_event config a s reading (Hear from r) none is = quiet_heard s.rest r is
quiet_event config a s reading (Tell number t) none is = tt
quiet_event config a s reading (Serve from asked r time append) none is = is
quiet_event config a s reading (Restarted from kept) none is = is

quiet_rest : (config : Config) (a : Actor) (h : History) → NoSession a → Always NoListing (mover_at config a h).rest
unfolding mover_at
quiet_rest config a [] none = tt
quiet_rest config a (e ∷ h) none = elim (same_cases e.actor a) [
  | inl s ↦ rw s.0 (quiet_event config a (mover_at config a h) e.reading e.event none (quiet_rest config a h none))
  | inr s ↦ rw s.0 (quiet_rest config a h none)
]

not_listing : (config : Config) (h : History) (m a : Actor) (asked : Request) → Run config h → NoSession m → flight m h ≡ Asked a asked → NoListing asked
not_listing config h m a asked run none flies =
    let next = asked_next config h m a asked run flies in
    (subst (λ (p : Program Told). Always NoListing p) next.1 (quiet_rest config m h none)).0

-- ## the laws

given : (config : Config) (h : History) (m a : Actor) (own_txn : Option ℕ) (paths : List Parts) (t g l : ℕ) → Run config h → flight m h ≡ Asked a (request.ListRead own_txn paths t g (Some l)) → WasFixed h m a own_txn g l
given config h (Session i) a own_txn paths t g l run flies =
    let m = Session i in
    let asked = request.ListRead own_txn paths t g (Some l) in
    let next = asked_next config h m a asked run flies in
    let is : IsAskedSo h m (mover_at config m h).keeps.opened a asked = asked_of h m (mover_at config m h).keeps.opened (mover_at config m h).rest a asked next.0 next.1 (state_at config h i run).rest in
    subst (λ (p : Option ℕ). WasFixed h m a p g l) (sym is.0) is.2
given config h (Applier k) a own_txn paths t g l run flies = absurd (not_listing config h (Applier k) a (request.ListRead own_txn paths t g (Some l)) run tt flies)
given config h (Tablet k) a own_txn paths t g l run flies = absurd (not_listing config h (Tablet k) a (request.ListRead own_txn paths t g (Some l)) run tt flies)
given config h (Status k) a own_txn paths t g l run flies = absurd (not_listing config h (Status k) a (request.ListRead own_txn paths t g (Some l)) run tt flies)

fixed_event : (config : Config) (h : History) (a : Actor) (reading : Option ℕ) (event : Event) → Run config h → Allowed config h a reading event → IsFixed h a event
fixed_event config h a reading (Serve m (request.ListRead own_txn paths t g (Some l)) r time append) run allowed = given config h m a own_txn paths t g l run allowed.1
fixed_event config h a reading event run allowed = tt

pub limits_fixed : GivenLimitsWereFixed
unfolding Steps
limits_fixed config h before e run stands =
    let up_to : Steps config (e ∷ before) = steps_at config e before h run.1 stands in
    fixed_event config before e.actor e.reading e.event (run.0, up_to.0) up_to.1

-- the listing that fixed the limit
listed_before : (b : History) (a : Actor) (event : Event) (t g l local : ℕ) → Listing event t g (Some l) local → IsFixed b a event → (m : Actor) × ((own_txn : Option ℕ) × ((v : ℕ) × WasFixed b m a own_txn v l))
listed_before b a (Serve m (request.ListRead own_txn paths u v (Some k)) (reply.Listed fixed others) time append) t g l local is was =
    let same : k ≡ l = some_same k l is.2 in
    (m, (own_txn, (v, subst (λ (n : ℕ). WasFixed b m a own_txn v n) same was)))
  where
    some_same : (k l : ℕ) → Some k ≡ Some l → k ≡ l
    some_same k l is = cc
listed_before b a (Serve m (request.ListRead own_txn paths u v None) (reply.Listed fixed others) time append) t g l local is was = let no = is.2 in cc
listed_before b a event t g l local is was = absurd is

pub listings_limits : ListingsPromiseTheirLimits
listings_limits config h before j f t g None local w run stands member same listing adds took =
    let p = listings_promise config h before j f t g None local w run stands member same listing adds took in
    (p.0, p.1 refl)
listings_limits config h before j f t g (Some l) local w run stands member same listing adds took =
    let p = listings_promise config h before j f t g (Some l) local w run stands member same listing adds took in
    let in_h : Member j h = member_before j f before h member stands in
    let reached = listings_reach config h j t g (Some l) local run in_h listing in
    let is : local ≡ l = reached.2.fixed in
    let place = member_stands j before member in
    let fixed = listed_before place.0 j.actor j.event t g l local listing (limits_fixed config h place.0 j run (stands_trans j f place.0 before h place.1 stands)) in
    let was = fixed.1.1.1 in
    let first = entry_of j.actor was.reading (Serve fixed.0 (request.ListRead fixed.1.0 was.paths was.t fixed.1.1.0 None) (reply.Listed l was.others) (Some was.now) was.append) in
    let there : Member first before = member_before first j place.0 before (stands_member first was.before place.0 was.stands) place.1 in
    let q = listings_promise config h before first f was.t fixed.1.1.0 None l w run stands there same (refl, refl, refl, refl) adds took in
    (p.0, subst (λ (n : ℕ). n < w) (sym is) (q.1 refl))
