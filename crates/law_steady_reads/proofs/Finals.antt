-- Each finished read is told its final time, and how often it met something.
use Rattle.std.proofs.Common.{◌≡◌, ℕ, ◌<◌, ◌≤◌, suc, Bool, true, false, ◌&&◌, List, [], ◌∷◌, Option, Some, None, nat_lt, length, refl, sym, ◌∙◌, ap, subst, inl, inr, if◌then◌else◌, arith}
use Rattle.std.proofs.lemmas.Bool.{lt-ltb, le-ltb}
use Rattle.txn_data.specs.declared.actor.Actor.{Actor}
use Rattle.txn_data.specs.declared.actor.Actor.TheVariants.{Session}
use Rattle.txn_data.specs.declared.command.Command.{Command}
use Rattle.txn_data.specs.declared.command.Command.TheVariants as command
use Rattle.txn_data.specs.declared.config.Config.{Config}
use Rattle.txn_data.specs.declared.place.Place.{Place}
use Rattle.txn_data.specs.declared.request.Request.{Request}
use Rattle.txn_data.specs.declared.reply.Reply.{Reply}
use Rattle.txn_data.specs.declared.told.Told.{Told}
use Rattle.txn_data.specs.declared.told.Told.TheVariants as told
use Rattle.txn_data.specs.declared.event.Event.{Event}
use Rattle.txn_data.specs.declared.event.Event.TheVariants.{Start, Ask, Serve, Hear, Tell, Restarted}
use Rattle.txn_data.specs.declared.entry.Entry.{Entry}
use Rattle.txn_types.specs.Lists.{or_else}
use Rattle.txn_types.specs.History.{History, same_actor, is_start}
use Rattle.txn_types.specs.Program as program
use Rattle.txn_types.specs.Program.{Program, Done, Asks, Reads, turn, turn_with, with_reading, heard}
use Rattle.txn_types.specs.Reads.{before_start, reading_after, with_met, met_since}
use Rattle.txn_types.specs.Session.{Keeps, Opened, command_program}
use Rattle.txn_types.specs.Run.{Steps, Mover, Allowed, StartsLine, CanHear, CanTell, Flight, Quiet, Asked, Answered, mover_at, mover_after, flight}
use Rattle.law_machines.proofs.Basics.{same_cases, same_refl}
use Rattle.law_messages.proofs.Rules.{Rules, Stage, stage_of, entry}
use Rattle.law_messages.proofs.Safe.{MoverIs}
use Rattle.law_messages.proofs.Runs.{kept_by}
use Rattle.law_courses.proofs.Courses.{rules, keeping}
use Rattle.law_apart.proofs.Steps.{or_none}
use Rattle.law_steady_reads.proofs.Follows.{met_by, Final, NotAtOnce, Outer, inner_outer, HasPlace, line_outer}

-- ## a mover that can hear something asked for it

abbrev pub IsAsks : Program Told → Type 0
IsAsks (Asks to asked next) = Unit {0}
IsAsks p = ⊥

asks_of : (R : Rules) (config : Config) (m : Actor) (z : History) (c : Stage) (h : History) (p : Program Told) (line : Option Command) (f : Flight) (from : Actor) (r : Reply) → MoverIs R config m z c h p line f → CanHear f from r → IsAsks p
asks_of R config m z c h p line Quiet from r is can = absurd can
asks_of R config m z c h (Asks to asked next) (Some line) f from r is can = tt
asks_of R config m z c h (Done t) (Some line) (Asked a q) from r is can = absurd is
asks_of R config m z c h (Done t) (Some line) (Answered by q) from r is can = absurd is
asks_of R config m z c h (Reads given) (Some line) (Asked a q) from r is can = absurd is
asks_of R config m z c h (Reads given) (Some line) (Answered by q) from r is can = absurd is
asks_of R config m z c h p None (Asked a q) from r is can = absurd is
asks_of R config m z c h p None (Answered by q) from r is can = absurd is

hears_asks : (config : Config) (m : Actor) (h : History) (from : Actor) (r : Reply) → Steps config h → CanHear (flight m h) from r → IsAsks (mover_at config m h).rest
hears_asks config m h from r steps can =
    asks_of (rules config) config m (before_start m h) (stage_of (mover_at config m h)) h (mover_at config m h).rest (mover_at config m h).line (flight m h) from r ((kept_by (rules config) config (keeping config) h steps).movers m) can

-- ## what a command under way tells

-- of a begin, a read and a scan
abbrev pub Timed : Keeps → Option ℕ → List ℕ → Program Told → Option Command → Type 0
Timed s own mets p (Some (command.Begin priority)) = Outer s own mets p
Timed s own mets p (Some (command.Read strict places)) = Outer s own mets p
Timed s own mets p (Some (command.Scan strict place)) = Outer s own mets p
Timed s own mets p line = Unit {0}

timed_map : (s : Keeps) (own new : Option ℕ) (mets more : List ℕ) (p q : Program Told) (line : Option Command) → (Outer s own mets p → Outer s new more q) → Timed s own mets p line → Timed s new more q line
timed_map s own new mets more p q (Some (command.Begin priority)) goes timed = goes timed
timed_map s own new mets more p q (Some (command.Read strict places)) goes timed = goes timed
timed_map s own new mets more p q (Some (command.Scan strict place)) goes timed = goes timed
timed_map s own new mets more p q line goes timed = tt

pub places_some : (n : ℕ) (places : List Place) → 1 ≤ length places → HasPlace places
places_some n [] le = omega (arith, le)
places_some n (p ∷ ps) le = tt

start_timed : (config : Config) (i : ℕ) (s : Keeps) (opened : Option Opened) (line : Command) → StartsLine config opened line → Timed s None [] (command_program config i s line) (Some line)
start_timed config i s opened (command.Begin priority) starts = line_outer config i s (command.Begin priority) tt
start_timed config i s opened (command.Read strict places) starts = line_outer config i s (command.Read strict places) (places_some 0 places starts.0)
start_timed config i s opened (command.Scan strict place) starts = line_outer config i s (command.Scan strict place) tt
start_timed config i s opened line starts = tt

ask_outer : (s : Keeps) (own reading : Option ℕ) (mets : List ℕ) (p : Program Told) (to : Actor) (asked : Request) → turn_with p reading ≡ program.Ask to asked → Outer s own mets p → Outer s (or_else own reading) mets (with_reading p reading)
ask_outer s own None mets (Done t) to asked is outer = cc
ask_outer s own (Some n) mets (Done t) to asked is outer = cc
ask_outer s own None mets (Asks a q next) to asked is outer = subst (λ (o : Option ℕ). Outer s o mets (Asks a q next)) (sym (or_none own)) outer
ask_outer s own (Some n) mets (Asks a q next) to asked is outer = cc
ask_outer s own None mets (Reads given) to asked is outer = cc
ask_outer s own (Some n) mets (Reads given) to asked is outer =
    subst (λ (o : Option ℕ). Outer s (or_else o (Some n)) mets (given n)) (sym outer.0) (inner_outer s (Some n) mets (given n) (outer.1 n).0)

hear_outer : (s : Keeps) (own : Option ℕ) (mets : List ℕ) (p : Program Told) (from : Actor) (r : Reply) → IsAsks p → Outer s own mets p → Outer s own (met_by from r mets) (heard p r)
hear_outer s own mets (Asks to asked next) from r is outer = inner_outer s own (met_by from r mets) (next r) (outer from r)
hear_outer s own mets (Done t) from r is outer = absurd is
hear_outer s own mets (Reads given) from r is outer = absurd is

-- ## one more entry

-- the times met since the session's last start
abbrev MetsAfter : Actor → Entry → List ℕ → List ℕ
MetsAfter a e mets = if is_start e.event then [] else with_met a e mets

abbrev pub TimedAt : Config → ℕ → History → Type 0
TimedAt config i h = let s = mover_at config (Session i) h in Timed s.keeps s.reading (met_since (Session i) h) s.rest s.line

timed_event : (config : Config) (h : History) (i : ℕ) (reading : Option ℕ) (event : Event) → Steps config h → Allowed config h (Session i) reading event → TimedAt config i h →
    (let s = mover_after config (Session i) (mover_at config (Session i) h) reading event in
    Timed s.keeps s.reading (MetsAfter (Session i) (entry (Session i) reading event) (met_since (Session i) h)) s.rest s.line)
timed_event config h i reading (Start number line) steps allowed at = start_timed config i (mover_at config (Session i) h).keeps (mover_at config (Session i) h).keeps.opened line allowed.3.2
timed_event config h i reading (Ask to asked) steps allowed at =
    let s = mover_at config (Session i) h in
    timed_map s.keeps s.reading (or_else s.reading reading) (met_since (Session i) h) (met_since (Session i) h) s.rest (with_reading s.rest reading) s.line
    (ask_outer s.keeps s.reading reading (met_since (Session i) h) s.rest to asked allowed.2) at
timed_event config h i reading (Hear from r) steps allowed at =
    let s = mover_at config (Session i) h in
    timed_map s.keeps s.reading s.reading (met_since (Session i) h) (met_by from r (met_since (Session i) h)) s.rest (heard s.rest r) s.line
    (hear_outer s.keeps s.reading (met_since (Session i) h) s.rest from r (hears_asks config (Session i) h from r steps allowed.1)) at
timed_event config h i reading (Tell number t) steps allowed at = tt
timed_event config h i reading (Serve from asked r time append) steps allowed at = absurd allowed.0
timed_event config h i reading (Restarted from kept) steps allowed at = absurd allowed.0

pub timed_at : (config : Config) (h : History) (i : ℕ) → Steps config h → TimedAt config i h
unfolding Steps mover_at met_since
timed_at config [] i steps = tt
timed_at config (e ∷ h) i steps = elim (same_cases e.actor (Session i)) [
  | inl s ↦ rw s.0 (timed_event config h i e.reading e.event steps.0 (subst (λ (a : Actor). Allowed config h a e.reading e.event) s.1 steps.1) (timed_at config h i steps.0))
  | inr s ↦ rw s.0 (timed_at config h i steps.0)
]

-- ## what it is told

abbrev pub IsTimedTold : Told → Type 0
IsTimedTold (told.Values at restarts rows) = Unit {0}
IsTimedTold (told.Began y at) = Unit {0}
IsTimedTold t = ⊥

not_at_once : (p : Program Told) (t : Told) → turn p ≡ program.Tell t → IsTimedTold t → NotAtOnce p → ⊥
not_at_once (Done (told.Values at restarts rows)) t is timed never = never
not_at_once (Done (told.Began y at)) t is timed never = never
not_at_once (Done a) t is timed never = let same : a ≡ t = cc in no_other a (subst IsTimedTold (sym same) timed) never
  where
    no_other : (b : Told) → IsTimedTold b → NotAtOnce (Done b) → ⊥
    no_other (told.Values at restarts rows) ok not = not
    no_other (told.Began y at) ok not = not
    no_other b ok not = ok
not_at_once (Asks to asked next) t is timed never = cc
not_at_once (Reads given) t is timed never = cc

tell_outer : (s : Keeps) (own reading : Option ℕ) (mets : List ℕ) (p : Program Told) (t : Told) → turn_with p reading ≡ program.Tell t → IsTimedTold t → Outer s own mets p → Final s own mets t
tell_outer s own None mets (Done a) t is timed outer = let same : a ≡ t = cc in subst (λ (b : Told). Final s own mets b) same outer
tell_outer s own (Some n) mets (Done a) t is timed outer = cc
tell_outer s own None mets (Asks to asked next) t is timed outer = cc
tell_outer s own (Some n) mets (Asks to asked next) t is timed outer = cc
tell_outer s own None mets (Reads given) t is timed outer = cc
tell_outer s own (Some n) mets (Reads given) t is timed outer = absurd (not_at_once (given n) t is timed (outer.1 n).1)

pub can_final : (s : Mover) (reading : Option ℕ) (mets : List ℕ) (t : Told) → CanTell s reading t → IsTimedTold t → Outer s.keeps s.reading mets s.rest → Final s.keeps s.reading mets t
can_final s reading mets t can timed outer = elim can [
  | inl is ↦ tell_outer s.keeps s.reading reading mets s.rest t is timed outer
  | inr none ↦ absurd (subst IsTimedTold none.0 timed)
]

-- ## the reading that it took

shorter : (k n : ℕ) → suc k ≤ n → k < n
shorter k n le = omega (arith, le)

pub unread : (a : Actor) (n : ℕ) (h : History) → length h ≤ n → reading_after a n h ≡ None
unfolding reading_after
unread a n [] le = refl
unread a n (e ∷ h) le = let lt : nat_lt (length h) n ≡ true = lt-ltb (length h) n (shorter (length h) n le) in rw lt refl

start_shorter : (a : Actor) (h : History) → length (before_start a h) ≤ length h
unfolding before_start
start_shorter a [] = omega arith
start_shorter a (e ∷ h) = shorter (same_actor e.actor a) (is_start e.event) (start_shorter a h)
  where
    shorter : (b c : Bool) → length (before_start a h) ≤ length h → length (if b && c then h else before_start a h) ≤ length (e ∷ h)
    shorter true true le = omega arith
    shorter true false le = omega (arith, le)
    shorter false true le = omega (arith, le)
    shorter false false le = omega (arith, le)

-- while a command is under way
abbrev pub ReadingIs : Config → Actor → History → Option Command → Type 0
ReadingIs config a h None = Unit {0}
ReadingIs config a h (Some line) = reading_after a (length (before_start a h)) h ≡ (mover_at config a h).reading

own_reading : (config : Config) (h : History) (a : Actor) (reading : Option ℕ) (event : Event) (n : ℕ) → same_actor a a ≡ true → n ≤ length h → reading_after a n (entry a reading event ∷ h) ≡ or_else (reading_after a n h) reading
unfolding reading_after
own_reading config h a reading event n same le = let ge : nat_lt (length h) n ≡ false = le-ltb (length h) n (omega (arith, le)) in rw (ge, same) refl

other_reading : (h : History) (a : Actor) (e : Entry) (n : ℕ) → same_actor e.actor a ≡ false → n ≤ length h → reading_after a n (e ∷ h) ≡ reading_after a n h
unfolding reading_after
other_reading h a e n other le = let ge : nat_lt (length h) n ≡ false = le-ltb (length h) n (omega (arith, le)) in rw (ge, other) (or_none (reading_after a n h))

reading_map : (config : Config) (a : Actor) (h g : History) (line : Option Command) → (reading_after a (length (before_start a h)) h ≡ (mover_at config a h).reading → reading_after a (length (before_start a g)) g ≡ (mover_at config a g).reading) →
    ReadingIs config a h line → ReadingIs config a g line
reading_map config a h g None goes is = tt
reading_map config a h g (Some line) goes is = goes is

reading_event : (config : Config) (h : History) (i : ℕ) (reading : Option ℕ) (event : Event) → Allowed config h (Session i) reading event → ReadingIs config (Session i) h (mover_at config (Session i) h).line →
    ReadingIs config (Session i) (entry (Session i) reading event ∷ h) (mover_after config (Session i) (mover_at config (Session i) h) reading event).line
unfolding before_start mover_at
reading_event config h i reading (Start number line) allowed is =
    let a = Session i in
    let same : same_actor a a ≡ true = same_refl a in
    rw same (own_reading config h a reading (Start number line) (length h) same (omega arith) ∙ (ap (λ (o : Option ℕ). or_else o reading) (unread a (length h) h (omega arith)) ∙ allowed.2))
reading_event config h i reading (Ask to asked) allowed is =
    let a = Session i in
    let same : same_actor a a ≡ true = same_refl a in
    reading_map config a h (entry a reading (Ask to asked) ∷ h) (mover_at config a h).line (λ old.
    rw same (own_reading config h a reading (Ask to asked) (length (before_start a h)) same (start_shorter a h) ∙ ap (λ (o : Option ℕ). or_else o reading) old)) is
reading_event config h i reading (Hear from r) allowed is =
    let a = Session i in
    let same : same_actor a a ≡ true = same_refl a in
    reading_map config a h (entry a reading (Hear from r) ∷ h) (mover_at config a h).line (λ old.
    rw same (own_reading config h a reading (Hear from r) (length (before_start a h)) same (start_shorter a h)
    ∙ (ap (λ (o : Option ℕ). or_else (reading_after a (length (before_start a h)) h) o) allowed.0 ∙ (or_none (reading_after a (length (before_start a h)) h) ∙ old)))) is
reading_event config h i reading (Tell number t) allowed is = tt
reading_event config h i reading (Serve from asked r time append) allowed is = absurd allowed.0
reading_event config h i reading (Restarted from kept) allowed is = absurd allowed.0

own_line : (config : Config) (h : History) (i : ℕ) (e : Entry) → same_actor e.actor (Session i) ≡ true → (mover_at config (Session i) (e ∷ h)).line ≡ (mover_after config (Session i) (mover_at config (Session i) h) e.reading e.event).line
unfolding mover_at
own_line config h i e same = rw same refl

other_line : (config : Config) (h : History) (i : ℕ) (e : Entry) → same_actor e.actor (Session i) ≡ false → (mover_at config (Session i) (e ∷ h)).line ≡ (mover_at config (Session i) h).line
unfolding mover_at
other_line config h i e same = rw same refl

other_same : (config : Config) (h : History) (i : ℕ) (e : Entry) → same_actor e.actor (Session i) ≡ false → reading_after (Session i) (length (before_start (Session i) h)) h ≡ (mover_at config (Session i) h).reading →
    reading_after (Session i) (length (before_start (Session i) (e ∷ h))) (e ∷ h) ≡ (mover_at config (Session i) (e ∷ h)).reading
unfolding mover_at before_start
other_same config h i e same old = rw same (other_reading h (Session i) e (length (before_start (Session i) h)) same (start_shorter (Session i) h) ∙ old)

pub reading_is : (config : Config) (h : History) (i : ℕ) → Steps config h → ReadingIs config (Session i) h (mover_at config (Session i) h).line
unfolding Steps mover_at before_start
reading_is config [] i steps = tt
reading_is config (e ∷ h) i steps = elim (same_cases e.actor (Session i)) [
  | inl s ↦
      let allowed : Allowed config h (Session i) e.reading e.event = subst (λ (a : Actor). Allowed config h a e.reading e.event) s.1 steps.1 in
      let mine : ReadingIs config (Session i) (entry (Session i) e.reading e.event ∷ h) (mover_after config (Session i) (mover_at config (Session i) h) e.reading e.event).line = reading_event config h i e.reading e.event allowed (reading_is config h i steps.0) in
      let there : ReadingIs config (Session i) (e ∷ h) (mover_after config (Session i) (mover_at config (Session i) h) e.reading e.event).line = subst (λ (a : Actor). ReadingIs config (Session i) (entry a e.reading e.event ∷ h) (mover_after config (Session i) (mover_at config (Session i) h) e.reading e.event).line) (sym s.1) mine in
      subst (λ (l : Option Command). ReadingIs config (Session i) (e ∷ h) l) (sym (own_line config h i e s.0)) there
  | inr s ↦
      let older : ReadingIs config (Session i) h (mover_at config (Session i) h).line = reading_is config h i steps.0 in
      let on : ReadingIs config (Session i) (e ∷ h) (mover_at config (Session i) h).line = reading_map config (Session i) h (e ∷ h) (mover_at config (Session i) h).line (λ old. other_same config h i e s.0 old) older in
      subst (λ (l : Option Command). ReadingIs config (Session i) (e ∷ h) l) (sym (other_line config h i e s.0)) on
]
