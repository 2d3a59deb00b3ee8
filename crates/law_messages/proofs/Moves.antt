-- Each allowed entry keeps that every mover is safe.
use Rattle.std.proofs.Common.{◌≡◌, ℕ, Bool, true, false, ◌&&◌, ◌∷◌, Option, Some, None, refl, sym, ◌∙◌, ap, subst, inl, inr}
use Rattle.txn_data.specs.declared.actor.Actor.{Actor}
use Rattle.txn_data.specs.declared.append.Append.{Append}
use Rattle.txn_data.specs.declared.request.Request.{Request}
use Rattle.txn_data.specs.declared.request.Request.TheVariants as request
use Rattle.txn_data.specs.declared.reply.Reply.{Reply}
use Rattle.txn_data.specs.declared.reply.Reply.TheVariants as reply
use Rattle.txn_data.specs.declared.told.Told.{Told}
use Rattle.txn_data.specs.declared.command.Command.{Command}
use Rattle.txn_data.specs.declared.config.Config.{Config}
use Rattle.txn_data.specs.declared.event.Event.{Event}
use Rattle.txn_data.specs.declared.event.Event.TheVariants.{Start, Ask, Serve, Hear, Tell, Restarted}
use Rattle.txn_data.specs.declared.entry.Entry.{Entry}
use Rattle.txn_types.specs.Lists.{or_else}
use Rattle.txn_types.specs.History.{History, same_actor, is_start}
use Rattle.txn_types.specs.Program as program
use Rattle.txn_types.specs.Program.{Program, Done, Asks, Reads, turn, turn_with, with_reading, heard}
use Rattle.txn_types.specs.Session.{Keeps}
use Rattle.txn_types.specs.Reads.{before_start}
use Rattle.txn_types.specs.Run.{Mover, mover_at, mover_after, kept_after, Allowed, Steps, Flight, Quiet, Asked, Answered, flight, flight_after, CanHear, IsUnderWay}
use Rattle.law_machines.proofs.Basics.{same_cases, same_refl}
use Rattle.law_messages.proofs.Rules.{Rules, Stage, stage_of, kept, kept_line, hears, with_own, no_memory, entry, Recorded, IsFor, GoodServe, IsFine, Later, Now, Then, later_trans}
use Rattle.law_messages.proofs.Safe.{Ending, Loses, Safe, safe_later, Rests, Waits, Hears, MoverIs, MoverAt, Keeping, stays}

-- ## what one more entry makes of the three folds

start_same : (m : Actor) (h : History) (e : Entry) → same_actor e.actor m ≡ true → is_start e.event ≡ true → before_start m (e ∷ h) ≡ h
unfolding before_start
start_same m h e same is = rw (same, is) refl

and_false : (b : Bool) → (b && false) ≡ false
and_false true = refl
and_false false = refl

start_not : (m : Actor) (h : History) (e : Entry) → is_start e.event ≡ false → before_start m (e ∷ h) ≡ before_start m h
unfolding before_start
start_not m h e is = rw (is, and_false (same_actor e.actor m)) refl

start_other : (m : Actor) (h : History) (e : Entry) → same_actor e.actor m ≡ false → before_start m (e ∷ h) ≡ before_start m h
unfolding before_start
start_other m h e same = rw same refl

mover_same : (config : Config) (m : Actor) (h : History) (e : Entry) → same_actor e.actor m ≡ true → mover_at config m (e ∷ h) ≡ mover_after config m (mover_at config m h) e.reading e.event
unfolding mover_at
mover_same config m h e same = rw same refl

mover_other : (config : Config) (m : Actor) (h : History) (e : Entry) → same_actor e.actor m ≡ false → mover_at config m (e ∷ h) ≡ mover_at config m h
unfolding mover_at
mover_other config m h e same = rw same refl

mover_plain : (config : Config) (m : Actor) (h : History) (e : Entry) → ((s : Mover) → mover_after config m s e.reading e.event ≡ s) → mover_at config m (e ∷ h) ≡ mover_at config m h
mover_plain config m h e plain = elim (same_cases e.actor m) [
  | inl s ↦ mover_same config m h e s.0 ∙ plain (mover_at config m h)
  | inr s ↦ mover_other config m h e s.0
]

flight_more : (m : Actor) (h : History) (e : Entry) → flight m (e ∷ h) ≡ flight_after m (flight m h) e.actor e.event
unfolding flight
flight_more m h e = refl

-- the mover after an entry, by what the three folds are then
abbrev pub At : (R : Rules) → Config → Actor → History → Type 0
At R config m h = MoverAt R config m h (before_start m h) (mover_at config m h) (flight m h)

shaped : (R : Rules) (config : Config) (m : Actor) (h z : History) (s : Mover) (f : Flight) → before_start m h ≡ z → mover_at config m h ≡ s → flight m h ≡ f →
    MoverAt R config m h z s f → At R config m h
shaped R config m h z s f ez es ef at =
    subst (λ (k : Flight). MoverAt R config m h (before_start m h) (mover_at config m h) k) (sym ef)
    (subst (λ (n : Mover). MoverAt R config m h (before_start m h) n f) (sym es)
    (subst (λ (l : History). MoverAt R config m h l s f) (sym ez) at))

-- ## what a mover is about

rests_of : (R : Rules) (config : Config) (m : Actor) (z : History) (c : Stage) (h : History) (p : Program Told) (line : Option Command) (f : Flight) → line ≡ None →
    MoverIs R config m z c h p line f → (f ≡ Quiet) × Rests R config m h c.keeps
rests_of R config m z c h p None Quiet is at = (refl, at)
rests_of R config m z c h p None (Asked a q) is at = absurd at
rests_of R config m z c h p None (Answered by r) is at = absurd at
rests_of R config m z c h p (Some line) f is at = cc

safe_of : (R : Rules) (config : Config) (m : Actor) (z : History) (c : Stage) (h : History) (p : Program Told) (line : Option Command) (f : Flight) → IsUnderWay line → f ≡ Quiet →
    MoverIs R config m z c h p line f → Safe R config m z c h p
safe_of R config m z c h p None f on is at = absurd on
safe_of R config m z c h p (Some line) Quiet on is at = at
safe_of R config m z c h p (Some line) (Asked a q) on is at = cc
safe_of R config m z c h p (Some line) (Answered by r) on is at = cc

abbrev IsLine : Option Command → Type 0
IsLine line = (l : Command) × (line ≡ Some l)

waits_of : (R : Rules) (config : Config) (m : Actor) (z : History) (c : Stage) (h : History) (p : Program Told) (line : Option Command) (f : Flight) (a : Actor) (q : Request) → f ≡ Asked a q →
    MoverIs R config m z c h p line f → IsLine line × Waits R config m z c h p a q
waits_of R config m z c h p None Quiet a q is at = cc
waits_of R config m z c h p None (Asked b r) a q is at = absurd at
waits_of R config m z c h p None (Answered by r) a q is at = absurd at
waits_of R config m z c h p (Some line) Quiet a q is at = cc
waits_of R config m z c h p (Some line) (Asked b r) a q is at =
    let eb : b ≡ a = cc in let er : r ≡ q = cc in
    ((line, refl), subst (λ (x : Request). Waits R config m z c h p a x) er (subst (λ (x : Actor). Waits R config m z c h p x r) eb at))
waits_of R config m z c h p (Some line) (Answered by r) a q is at = cc

with_line : (R : Rules) (config : Config) (m : Actor) (z : History) (c : Stage) (h : History) (p : Program Told) (line : Option Command) (f : Flight) → IsLine line →
    ((l : Command) → MoverIs R config m z c h p (Some l) f) → MoverIs R config m z c h p line f
with_line R config m z c h p line f is at = subst (λ (l : Option Command). MoverIs R config m z c h p l f) (sym is.1) (at is.0)

under_way : (line : Option Command) → IsUnderWay line → IsLine line
under_way None on = absurd on
under_way (Some line) on = (line, refl)

-- ## an entry of the mover's own

own_start : (R : Rules) (config : Config) → Keeping R config → (h : History) (m : Actor) (number : ℕ) (line : Command) → R.Base h → IsFine R config h (entry m None (Start number line)) →
    At R config m h → At R config m (entry m None (Start number line) ∷ h)
own_start R config keeping h m number line base fine at =
    let e = entry m None (Start number line) in
    let s = mover_at config m h in
    let rest = rests_of R config m (before_start m h) (stage_of s) h s.rest s.line (flight m h) fine.allowed.0 at in
    shaped R config m (e ∷ h) h (mover_after config m s None (Start number line)) Quiet
    (start_same m h e (same_refl m) refl) (mover_same config m h e (same_refl m)) (flight_more m h e ∙ rest.0)
    (keeping.starts h m s number line fine.steps base refl fine.allowed.3 (rest.1 (e ∷ h) (Then h e Now base fine (λ never. never))))

turned_ask : (R : Rules) (config : Config) (m : Actor) (z : History) (c : Stage) (h : History) (p : Program Told) (to : Actor) (asked : Request) → turn p ≡ program.Ask to asked →
    Safe R config m z c h p → Waits R config m z c h p to asked
turned_ask R config m z c h (Done t) to asked is safe = cc
turned_ask R config m z c h (Asks b q next) to asked is safe =
    let eb : b ≡ to = cc in let eq : q ≡ asked = cc in (eb, eq, safe)
turned_ask R config m z c h (Reads given) to asked is safe = cc

or_none : {A : Type 0} (o : Option A) → or_else o None ≡ o
or_none None = refl
or_none (Some x) = refl

asked_with : (R : Rules) (config : Config) (m : Actor) (z : History) (c : Stage) (h : History) (p : Program Told) (reading : Option ℕ) (to : Actor) (asked : Request) →
    R.Base h → IsFine R config h (entry m reading (Ask to asked)) → turn_with p reading ≡ program.Ask to asked → Safe R config m z c h p →
    Waits R config m z (with_own c reading) (entry m reading (Ask to asked) ∷ h) (with_reading p reading) to asked
asked_with R config m z c h (Done t) None to asked base fine is safe = cc
asked_with R config m z c h (Done t) (Some reading) to asked base fine is safe = cc
asked_with R config m z c h (Asks b q next) None to asked base fine is safe =
    let e = entry m None (Ask to asked) in
    subst (λ (o : Option ℕ). Waits R config m z (record c { reading = o }) (e ∷ h) (Asks b q next) to asked) (sym (or_none c.reading))
    (turned_ask R config m z c (e ∷ h) (Asks b q next) to asked is (safe_later R config m z c h (e ∷ h) (Asks b q next) (Then h e Now base fine (λ never. never)) safe))
asked_with R config m z c h (Asks b q next) (Some reading) to asked base fine is safe = cc
asked_with R config m z c h (Reads given) None to asked base fine is safe = cc
asked_with R config m z c h (Reads given) (Some reading) to asked base fine is safe =
    let e = entry m (Some reading) (Ask to asked) in
    let own : Recorded reading m (e ∷ h) = (e, inl refl, refl, refl) in
    turned_ask R config m z (with_own c (Some reading)) (e ∷ h) (given reading) to asked is (safe.1 reading (e ∷ h) (Then h e Now base fine (λ never. never)) own).0

own_ask : (R : Rules) (config : Config) (h : History) (m : Actor) (reading : Option ℕ) (to : Actor) (asked : Request) → R.Base h → IsFine R config h (entry m reading (Ask to asked)) →
    At R config m h → At R config m (entry m reading (Ask to asked) ∷ h)
own_ask R config h m reading to asked base fine at =
    let e = entry m reading (Ask to asked) in
    let s = mover_at config m h in
    let z = before_start m h in
    let safe = safe_of R config m z (stage_of s) h s.rest s.line (flight m h) fine.allowed.0 fine.allowed.1 at in
    shaped R config m (e ∷ h) z (mover_after config m s reading (Ask to asked)) (Asked to asked)
    (start_not m h e refl) (mover_same config m h e (same_refl m)) (flight_more m h e ∙ asked_flight m (flight m h) to asked)
    (with_line R config m z (with_own (stage_of s) reading) (e ∷ h) (with_reading s.rest reading) s.line (Asked to asked) (under_way s.line fine.allowed.0)
    (λ l. asked_with R config m z (stage_of s) h s.rest reading to asked base fine fine.allowed.2 safe))
  where
    asked_flight : (m : Actor) (f : Flight) (to : Actor) (asked : Request) → flight_after m f m (Ask to asked) ≡ Asked to asked
    asked_flight m f to asked = rw (same_refl m) refl

can_hear : (R : Rules) (config : Config) (m : Actor) (z : History) (c : Stage) (h g : History) (p : Program Told) (line : Option Command) (f : Flight) (from : Actor) (r : Reply) →
    Later R config m h g → Steps config h → R.Base h → CanHear f from r → MoverIs R config m z c h p line f → IsLine line × Safe R config m z (hears m c from r) g (heard p r)
can_hear R config m z c h g p None Quiet from r later steps base may at = absurd may
can_hear R config m z c h g p None (Asked a q) from r later steps base may at = absurd at
can_hear R config m z c h g p None (Answered by answer) from r later steps base may at = absurd at
can_hear R config m z c h g p (Some line) Quiet from r later steps base may at = absurd may
can_hear R config m z c h g (Done t) (Some line) (Asked a q) from r later steps base may at = absurd at
can_hear R config m z c h g (Reads given) (Some line) (Asked a q) from r later steps base may at = absurd at
can_hear R config m z c h g (Asks to asked next) (Some line) (Asked a q) from r later steps base may at = (
  (line, refl),
  subst (λ (x : Reply). Safe R config m z (hears m c from x) g (next x)) (sym may.1)
      (subst (λ (b : Actor). Safe R config m z (hears m c b no_memory) g (next no_memory)) (at.0 ∙ may.0)
      (safe_later R config m z (hears m c to no_memory) h g (next no_memory) later (at.2.1 h Now steps base).3)),
)
can_hear R config m z c h g (Done t) (Some line) (Answered by answer) from r later steps base may at = absurd at
can_hear R config m z c h g (Reads given) (Some line) (Answered by answer) from r later steps base may at = absurd at
can_hear R config m z c h g (Asks to asked next) (Some line) (Answered by answer) from r later steps base may at = (
  (line, refl),
  subst (λ (x : Reply). Safe R config m z (hears m c from x) g (next x)) (sym may.1)
      (subst (λ (b : Actor). Safe R config m z (hears m c b answer) g (next answer)) may.0
      (safe_later R config m z (hears m c by answer) h g (next answer) later at.1)),
)

own_hear : (R : Rules) (config : Config) (h : History) (m : Actor) (reading : Option ℕ) (from : Actor) (r : Reply) → R.Base h → IsFine R config h (entry m reading (Hear from r)) →
    At R config m h → At R config m (entry m reading (Hear from r) ∷ h)
own_hear R config h m reading from r base fine at =
    let e = entry m reading (Hear from r) in
    let s = mover_at config m h in
    let z = before_start m h in
    let safe = can_hear R config m z (stage_of s) h (e ∷ h) s.rest s.line (flight m h) from r (Then h e Now base fine (λ never. never)) fine.steps base fine.allowed.1 at in
    shaped R config m (e ∷ h) z (mover_after config m s reading (Hear from r)) Quiet
    (start_not m h e refl) (mover_same config m h e (same_refl m)) (flight_more m h e ∙ quiet_flight m (flight m h) from r)
    (with_line R config m z (hears m (stage_of s) from r) (e ∷ h) (heard s.rest r) s.line Quiet safe.0 (λ l. safe.1))
  where
    quiet_flight : (m : Actor) (f : Flight) (from : Actor) (r : Reply) → flight_after m f m (Hear from r) ≡ Quiet
    quiet_flight m f from r = rw (same_refl m) refl

-- what is told
turned_tell : (p : Program Told) (t : Told) → turn p ≡ program.Tell t → p ≡ Done t
turned_tell (Done u) t is = let eu : u ≡ t = cc in ap Done eu
turned_tell (Asks b q next) t is = cc
turned_tell (Reads given) t is = cc

told_turn : (R : Rules) (config : Config) (m : Actor) (z : History) (c : Stage) (h : History) (e : Entry) (p : Program Told) (reading : Option ℕ) (t : Told) →
    Later R config m h (e ∷ h) → e.actor ≡ m → e.reading ≡ reading → turn_with p reading ≡ program.Tell t → Safe R config m z c h p → Ending R config m z c (e ∷ h) t
told_turn R config m z c h e (Done u) None t later mine same is safe =
    let eu : u ≡ t = cc in λ g on. subst (λ (v : Told). R.Ends z m g c v × R.Idle g m (kept config m c v)) eu (safe.1 g (later_trans R config m h (e ∷ h) g later on))
told_turn R config m z c h e (Done u) (Some reading) t later mine same is safe = cc
told_turn R config m z c h e (Asks b q next) None t later mine same is safe = cc
told_turn R config m z c h e (Asks b q next) (Some reading) t later mine same is safe = cc
told_turn R config m z c h e (Reads given) None t later mine same is safe = cc
told_turn R config m z c h e (Reads given) (Some reading) t later mine same is safe =
    let own : Recorded reading m (e ∷ h) = (e, inl refl, mine, same) in
    (safe.1 reading (e ∷ h) later own).1 t (turned_tell (given reading) t is)

loses_of : (R : Rules) (config : Config) (m : Actor) (z : History) (c : Stage) (h : History) (p : Program Told) → Safe R config m z c h p → Loses R config m z c h
loses_of R config m z c h (Done t) safe = safe.0
loses_of R config m z c h (Asks to asked next) safe = safe.0
loses_of R config m z c h (Reads given) safe = safe.0

pub own_tell : (R : Rules) (config : Config) (h : History) (m : Actor) (reading : Option ℕ) (number : ℕ) (t : Told) → R.Base h → IsFine R config h (entry m reading (Tell number t)) →
    At R config m h → Ending R config m (before_start m h) (stage_of (mover_at config m h)) (entry m reading (Tell number t) ∷ h) t
own_tell R config h m reading number t base fine at =
    let e = entry m reading (Tell number t) in
    let s = mover_at config m h in
    let z = before_start m h in
    let later : Later R config m h (e ∷ h) = Then h e Now base fine (λ never. never) in
    let safe = safe_of R config m z (stage_of s) h s.rest s.line (flight m h) fine.allowed.0 fine.allowed.1 at in
    elim fine.allowed.3 [
      | inl turned ↦ told_turn R config m z (stage_of s) h e s.rest reading t later refl refl turned safe
      | inr lost ↦ λ g on. subst (λ (v : Told). R.Ends z m g (stage_of s) v × R.Idle g m (kept config m (stage_of s) v)) (sym lost.0)
          (loses_of R config m z (stage_of s) h s.rest safe lost.1 g (later_trans R config m h (e ∷ h) g later on))
    ]

kept_is : (config : Config) (m : Actor) (s : Mover) (line : Option Command) (t : Told) → s.line ≡ line → kept_after config m s line t ≡ kept_line config m (stage_of s) line t
kept_is config m s None t is = refl
kept_is config m s (Some line) t is = refl

told_own : (R : Rules) (config : Config) (h : History) (m : Actor) (reading : Option ℕ) (number : ℕ) (t : Told) → R.Base h → IsFine R config h (entry m reading (Tell number t)) →
    At R config m h → At R config m (entry m reading (Tell number t) ∷ h)
told_own R config h m reading number t base fine at =
    let e = entry m reading (Tell number t) in
    let s = mover_at config m h in
    let z = before_start m h in
    let ends = own_tell R config h m reading number t base fine at in
    shaped R config m (e ∷ h) z (mover_after config m s reading (Tell number t)) Quiet
    (start_not m h e refl) (mover_same config m h e (same_refl m)) (flight_more m h e ∙ fine.allowed.1)
    (λ g on. subst (λ (k : Keeps). R.Idle g m k) (sym (kept_is config m s s.line t refl)) (ends g on).1)

-- ## an entry that answers the mover

safe_at : (R : Rules) (config : Config) (m : Actor) (z : History) (c : Stage) (h : History) (to a : Actor) (asked q : Request) (next : Reply → Program Told) →
    (to ≡ a) × (asked ≡ q) × Safe R config m z c h (Asks to asked next) → Safe R config m z c h (Asks a q next)
safe_at R config m z c h to a asked q next w =
    subst (λ (x : Request). Safe R config m z c h (Asks a x next)) w.1 (subst (λ (b : Actor). Safe R config m z c h (Asks b asked next)) w.0 w.2)

served_to : (R : Rules) (config : Config) (m : Actor) (z : History) (c : Stage) (h : History) (p : Program Told) (a : Actor) (reading : Option ℕ) (q : Request) (r : Reply) (time : Option ℕ) (append : Append) →
    Steps config h → R.Base h → Allowed config h a reading (Serve m q r time append) → R.Base (entry a reading (Serve m q r time append) ∷ h) → Waits R config m z c h p a q →
    Hears R config m z c (entry a reading (Serve m q r time append) ∷ h) p a r
served_to R config m z c h (Done t) a reading q r time append steps base allowed after w = absurd w
served_to R config m z c h (Reads given) a reading q r time append steps base allowed after w = absurd w
served_to R config m z c h (Asks to asked next) a reading q r time append steps base allowed after w =
    (w.0, ((safe_at R config m z c h to a asked q next w).1 h Now steps base).1 reading r time append allowed after)

pub good_at : (R : Rules) (config : Config) (m : Actor) (z : History) (c : Stage) (h : History) (p : Program Told) (a : Actor) (q : Request) → Steps config h → R.Base h → Waits R config m z c h p a q → R.Good h m a q
good_at R config m z c h (Done t) a q steps base w = absurd w
good_at R config m z c h (Reads given) a q steps base w = absurd w
good_at R config m z c h (Asks to asked next) a q steps base w = ((safe_at R config m z c h to a asked q next w).1 h Now steps base).0

restarted_to : (R : Rules) (config : Config) (m : Actor) (z : History) (c : Stage) (h : History) (p : Program Told) (a : Actor) (reading : Option ℕ) (k : Bool) →
    Steps config h → R.Base h → R.Base (entry a reading (Restarted m k) ∷ h) → Waits R config m z c h p a request.Restart →
    Hears R config m z c (entry a reading (Restarted m k) ∷ h) p a (reply.Restarted k)
restarted_to R config m z c h (Done t) a reading k steps base after w = absurd w
restarted_to R config m z c h (Reads given) a reading k steps base after w = absurd w
restarted_to R config m z c h (Asks to asked next) a reading k steps base after w =
    (w.0, ((safe_at R config m z c h to a asked request.Restart next w).1 h Now steps base).2 reading k refl after)

served_own : (R : Rules) (config : Config) (h : History) (m a : Actor) (reading : Option ℕ) (q : Request) (r : Reply) (time : Option ℕ) (append : Append) → R.Base h →
    IsFine R config h (entry a reading (Serve m q r time append)) → R.Base (entry a reading (Serve m q r time append) ∷ h) →
    At R config m h → At R config m (entry a reading (Serve m q r time append) ∷ h)
served_own R config h m a reading q r time append base fine after at =
    let e = entry a reading (Serve m q r time append) in
    let s = mover_at config m h in
    let z = before_start m h in
    let w = waits_of R config m z (stage_of s) h s.rest s.line (flight m h) a q fine.allowed.1 at in
    shaped R config m (e ∷ h) z s (Answered a r) (start_not m h e refl) (mover_plain config m h e (λ n. refl)) (flight_more m h e ∙ served_flight m (flight m h) a q r time append)
    (with_line R config m z (stage_of s) (e ∷ h) s.rest s.line (Answered a r) w.0
    (λ l. served_to R config m z (stage_of s) h s.rest a reading q r time append fine.steps base fine.allowed after w.1))
  where
    served_flight : (m : Actor) (f : Flight) (a : Actor) (q : Request) (r : Reply) (time : Option ℕ) (append : Append) → flight_after m f a (Serve m q r time append) ≡ Answered a r
    served_flight m f a q r time append = rw (same_refl m) refl

restarted_own : (R : Rules) (config : Config) (h : History) (m a : Actor) (reading : Option ℕ) (k : Bool) → R.Base h → IsFine R config h (entry a reading (Restarted m k)) →
    R.Base (entry a reading (Restarted m k) ∷ h) → At R config m h → At R config m (entry a reading (Restarted m k) ∷ h)
restarted_own R config h m a reading k base fine after at =
    let e = entry a reading (Restarted m k) in
    let s = mover_at config m h in
    let z = before_start m h in
    let w = waits_of R config m z (stage_of s) h s.rest s.line (flight m h) a request.Restart fine.allowed.1 at in
    shaped R config m (e ∷ h) z s (Answered a (reply.Restarted k)) (start_not m h e refl) (mover_plain config m h e (λ n. refl)) (flight_more m h e ∙ restarted_flight m (flight m h) a k)
    (with_line R config m z (stage_of s) (e ∷ h) s.rest s.line (Answered a (reply.Restarted k)) w.0
    (λ l. restarted_to R config m z (stage_of s) h s.rest a reading k fine.steps base after w.1))
  where
    restarted_flight : (m : Actor) (f : Flight) (a : Actor) (k : Bool) → flight_after m f a (Restarted m k) ≡ Answered a (reply.Restarted k)
    restarted_flight m f a k = rw (same_refl m) refl

-- ## an entry that is neither

quiet_by : (R : Rules) (config : Config) (h : History) (m : Actor) (e : Entry) → R.Base h → IsFine R config h e → (IsFor m e.event → ⊥) →
    before_start m (e ∷ h) ≡ before_start m h → mover_at config m (e ∷ h) ≡ mover_at config m h → flight m (e ∷ h) ≡ flight m h → At R config m h → At R config m (e ∷ h)
quiet_by R config h m e base fine other ez es ef at =
    let s = mover_at config m h in
    shaped R config m (e ∷ h) (before_start m h) s (flight m h) ez es ef
    (stays R config m (before_start m h) (stage_of s) h (e ∷ h) s.rest s.line (flight m h) (Then h e Now base fine other) at)

other_ask : (m a : Actor) (f : Flight) (to : Actor) (asked : Request) → same_actor a m ≡ false → flight_after m f a (Ask to asked) ≡ f
other_ask m a f to asked same = rw same refl

other_hear : (m a : Actor) (f : Flight) (from : Actor) (r : Reply) → same_actor a m ≡ false → flight_after m f a (Hear from r) ≡ f
other_hear m a f from r same = rw same refl

other_serve : (m a : Actor) (f : Flight) (from : Actor) (q : Request) (r : Reply) (time : Option ℕ) (append : Append) → same_actor from m ≡ false → flight_after m f a (Serve from q r time append) ≡ f
other_serve m a f from q r time append same = rw same refl

other_restarted : (m a : Actor) (f : Flight) (from : Actor) (k : Bool) → same_actor from m ≡ false → flight_after m f a (Restarted from k) ≡ f
other_restarted m a f from k same = rw same refl

pub moves : (R : Rules) (config : Config) → Keeping R config → (h : History) (a : Actor) (reading : Option ℕ) (event : Event) (m : Actor) → R.Base h → IsFine R config h (entry a reading event) →
    R.Base (entry a reading event ∷ h) → At R config m h → At R config m (entry a reading event ∷ h)
moves R config keeping h a reading (Start number line) m base fine after at = elim (same_cases a m) [
  | inl s ↦ subst (λ (b : Actor). At R config m (entry b reading (Start number line) ∷ h)) (sym s.1)
      (subst (λ (r : Option ℕ). At R config m (entry m r (Start number line) ∷ h)) (sym fine.allowed.2)
      (own_start R config keeping h m number line base
      (subst (λ (r : Option ℕ). IsFine R config h (entry m r (Start number line))) fine.allowed.2 (subst (λ (b : Actor). IsFine R config h (entry b reading (Start number line))) s.1 fine)) at))
  | inr s ↦ let e = entry a reading (Start number line) in
      quiet_by R config h m e base fine (λ never. never) (start_other m h e s.0) (mover_other config m h e s.0) (flight_more m h e) at
]
moves R config keeping h a reading (Ask to asked) m base fine after at = elim (same_cases a m) [
  | inl s ↦ subst (λ (b : Actor). At R config m (entry b reading (Ask to asked) ∷ h)) (sym s.1)
      (own_ask R config h m reading to asked base (subst (λ (b : Actor). IsFine R config h (entry b reading (Ask to asked))) s.1 fine) at)
  | inr s ↦ let e = entry a reading (Ask to asked) in
      quiet_by R config h m e base fine (λ never. never) (start_other m h e s.0) (mover_other config m h e s.0) (flight_more m h e ∙ other_ask m a (flight m h) to asked s.0) at
]
moves R config keeping h a reading (Hear from r) m base fine after at = elim (same_cases a m) [
  | inl s ↦ subst (λ (b : Actor). At R config m (entry b reading (Hear from r) ∷ h)) (sym s.1)
      (own_hear R config h m reading from r base (subst (λ (b : Actor). IsFine R config h (entry b reading (Hear from r))) s.1 fine) at)
  | inr s ↦ let e = entry a reading (Hear from r) in
      quiet_by R config h m e base fine (λ never. never) (start_other m h e s.0) (mover_other config m h e s.0) (flight_more m h e ∙ other_hear m a (flight m h) from r s.0) at
]
moves R config keeping h a reading (Tell number t) m base fine after at = elim (same_cases a m) [
  | inl s ↦ subst (λ (b : Actor). At R config m (entry b reading (Tell number t) ∷ h)) (sym s.1)
      (told_own R config h m reading number t base (subst (λ (b : Actor). IsFine R config h (entry b reading (Tell number t))) s.1 fine) at)
  | inr s ↦ let e = entry a reading (Tell number t) in
      quiet_by R config h m e base fine (λ never. never) (start_other m h e s.0) (mover_other config m h e s.0) (flight_more m h e) at
]
moves R config keeping h a reading (Serve from q r time append) m base fine after at = elim (same_cases from m) [
  | inl s ↦ subst (λ (b : Actor). At R config m (entry a reading (Serve b q r time append) ∷ h)) (sym s.1)
      (served_own R config h m a reading q r time append base (subst (λ (b : Actor). IsFine R config h (entry a reading (Serve b q r time append))) s.1 fine)
      (subst (λ (b : Actor). R.Base (entry a reading (Serve b q r time append) ∷ h)) s.1 after) at)
  | inr s ↦ let e = entry a reading (Serve from q r time append) in
      quiet_by R config h m e base fine s.1 (start_not m h e refl) (mover_plain config m h e (λ n. refl)) (flight_more m h e ∙ other_serve m a (flight m h) from q r time append s.0) at
]
moves R config keeping h a reading (Restarted from k) m base fine after at = elim (same_cases from m) [
  | inl s ↦ subst (λ (b : Actor). At R config m (entry a reading (Restarted b k) ∷ h)) (sym s.1)
      (restarted_own R config h m a reading k base (subst (λ (b : Actor). IsFine R config h (entry a reading (Restarted b k))) s.1 fine)
      (subst (λ (b : Actor). R.Base (entry a reading (Restarted b k) ∷ h)) s.1 after) at)
  | inr s ↦ let e = entry a reading (Restarted from k) in
      quiet_by R config h m e base fine s.1 (start_not m h e refl) (mover_plain config m h e (λ n. refl)) (flight_more m h e ∙ other_restarted m a (flight m h) from k s.0) at
]

-- a request that is served is good
pub good_serve : (R : Rules) (config : Config) (h : History) (a : Actor) (reading : Option ℕ) (event : Event) → Steps config h → R.Base h → Allowed config h a reading event →
    ((m : Actor) → At R config m h) → GoodServe R h a event
good_serve R config h a reading (Serve from q r time append) steps base allowed at =
    let s = mover_at config from h in
    good_at R config from (before_start from h) (stage_of s) h s.rest a q steps base
    (waits_of R config from (before_start from h) (stage_of s) h s.rest s.line (flight from h) a q allowed.1 (at from)).1
good_serve R config h a reading (Restarted from k) steps base allowed at = tt
good_serve R config h a reading (Start number line) steps base allowed at = tt
good_serve R config h a reading (Ask to asked) steps base allowed at = tt
good_serve R config h a reading (Hear from r) steps base allowed at = tt
good_serve R config h a reading (Tell number t) steps base allowed at = tt
