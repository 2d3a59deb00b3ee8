-- Each told command ran over just what was served for it.
use Rattle.std.proofs.Common.{◌≡◌, ℕ, ◌≤◌, Bool, true, List, [], ◌∷◌, ◌++◌, Option, Some, None, length, reverse, append_assoc, refl, sym, ◌∙◌, ap, subst, inl, inr, arith}
use Rattle.std.proofs.lemmas.List.{append-nil, reverse-append}
use Rattle.txn_data.specs.declared.actor.Actor.{Actor}
use Rattle.txn_data.specs.declared.append.Append.{Append}
use Rattle.txn_data.specs.declared.command.Command.{Command}
use Rattle.txn_data.specs.declared.config.Config.{Config}
use Rattle.txn_data.specs.declared.request.Request.{Request}
use Rattle.txn_data.specs.declared.reply.Reply.{Reply}
use Rattle.txn_data.specs.declared.reply.Reply.TheVariants as reply
use Rattle.txn_data.specs.declared.told.Told.{Told}
use Rattle.txn_data.specs.declared.event.Event.{Event}
use Rattle.txn_data.specs.declared.event.Event.TheVariants.{Start, Ask, Serve, Hear, Tell, Restarted}
use Rattle.txn_data.specs.declared.entry.Entry.{Entry}
use Rattle.txn_types.specs.Lists.{Member}
use Rattle.txn_types.specs.History.{History}
use Rattle.txn_types.specs.Program.{Program, Done, Asks, Reads}
use Rattle.txn_types.specs.Reads.{before_start}
use Rattle.txn_types.specs.Run.{Run, Steps, mover_at, limits_of, program_of}
use Rattle.txn_types.specs.Cause.{ToldAt, tells, tells_by, ServedAt, served_since}
use Rattle.law_machines.proofs.Basics.{member_cases}
use Rattle.law_messages.proofs.Rules.{Rules, Stage, hears, with_own, no_memory, told_memory, entry, IsFor, Later, lasts}
use Rattle.law_messages.proofs.Safe.{Safe, Keeping}
use Rattle.law_messages.proofs.Runs.{ends_of}
use Rattle.law_courses.specs.Laws.{CouldStart}
use Rattle.law_served.specs.Ran.{Ran}
use Rattle.law_served.specs.Laws.{RanAs, ToldCommandsRan}
use Rattle.law_served.proofs.Above.{served_above, above_step, above_none, by_other, by_serve, start_low, since_above}

abbrev pub rules : Config → Rules
rules config = record {
  Base = λ h. Unit {0};
  Good = λ h m a asked. Unit {0};
  Idle = λ h m keeps. Unit {0};
  Ends = λ z m h c t. RanAs config m (served_above (length z) m h) c.keeps c.line t;
}

-- what was served for m so far, from the place n on
record Has (n : ℕ) (m : Actor) (ss : List ServedAt) (h : History) : Type 0 where
  pub low : n ≤ length h
  pub served : served_above n m h ≡ ss

has_other : (n : ℕ) (m : Actor) (ss : List ServedAt) (e : Entry) (h : History) → (IsFor m e.event → ⊥) → Has n m ss h → Has n m ss (e ∷ h)
has_other n m ss e h other has = record {
  low = let low = has.low in omega (arith, low);
  served = above_step n m e h has.low ∙ (ap (λ (l : List ServedAt). l ++ served_above n m h) (by_other m h e other) ∙ has.served);
}

has_later : (config : Config) (n : ℕ) (m : Actor) (ss : List ServedAt) (h g : History) → Later (rules config) config m h g → Has n m ss h → Has n m ss g
has_later config n m ss h g later has = lasts (rules config) config m (Has n m ss) (λ k e base fine other is. has_other n m ss e k other is) h g later has

has_serve : (n : ℕ) (m : Actor) (ss : List ServedAt) (h : History) (a : Actor) (reading : Option ℕ) (asked : Request) (r : Reply) (time : Option ℕ) (append : Append) → Has n m ss h →
    Has n m ((record { by = a; reading = reading; asked = asked; reply = r; append = append; before = h }) ∷ ss) (entry a reading (Serve m asked r time append) ∷ h)
has_serve n m ss h a reading asked r time append has = record {
  low = let low = has.low in omega (arith, low);
  served = above_step n m (entry a reading (Serve m asked r time append)) h has.low
      ∙ (ap (λ (l : List ServedAt). l ++ served_above n m h) (by_serve m h a reading asked r time append)
      ∙ ap (λ (l : List ServedAt). (record { by = a; reading = reading; asked = asked; reply = r; append = append; before = h }) ∷ l) has.served);
}

has_restarted : (n : ℕ) (m : Actor) (ss : List ServedAt) (h : History) (a : Actor) (reading : Option ℕ) (k : Bool) → Has n m ss h → Has n m ss (entry a reading (Restarted m k) ∷ h)
has_restarted n m ss h a reading k has = record { low = let low = has.low in omega (arith, low); served = above_step n m (entry a reading (Restarted m k)) h has.low ∙ has.served }

-- what comes of the program from here on is what comes of the whole command
abbrev Leads : Actor → List ServedAt → Program Told → Bool → Program Told → Type 0
Leads m ss whole lose p = (more : List ServedAt) (t : Told) → Ran m lose more p t → Ran m true (reverse ss ++ more) whole t

one_more : (s : ServedAt) (ss more : List ServedAt) → reverse (s ∷ ss) ++ more ≡ reverse ss ++ (s ∷ more)
one_more s ss more = ap (λ (l : List ServedAt). l ++ more) (reverse-append (s ∷ []) ss) ∙ append_assoc (reverse ss) (s ∷ []) more

-- a command with this line
record Under (config : Config) (m : Actor) (c : Stage) (whole : Program Told) : Type 0 where
  pub line : Command
  pub is : c.line ≡ Some line
  pub program : whole ≡ program_of config m c.keeps line
  pub may : CouldStart config m c.keeps line

ran_as : (config : Config) (m : Actor) (z g : History) (c : Stage) (whole : Program Told) (ss : List ServedAt) (t : Told) → Under config m c whole → Has (length z) m ss g → Ran m true (reverse ss) whole t → RanAs config m (served_above (length z) m g) c.keeps c.line t
ran_as config m z g c whole ss t under has ran =
    subst (λ (l : Option Command). RanAs config m (served_above (length z) m g) c.keeps l t) (sym under.is)
    (under.may, subst (λ (l : List ServedAt). Ran m true (reverse l) (program_of config m c.keeps under.line) t) (sym has.served) (subst (λ (p : Program Told). Ran m true (reverse ss) p t) under.program ran))

led : (m : Actor) (ss : List ServedAt) (whole p : Program Told) (lose : Bool) (t : Told) → Leads m ss whole lose p → Ran m lose [] p t → Ran m true (reverse ss) whole t
led m ss whole p lose t leads ran = subst (λ (l : List ServedAt). Ran m true l whole t) (append-nil (reverse ss)) (leads [] t ran)

lost : (m : Actor) (lose : Bool) (p : Program Told) → lose ≡ true → Ran m lose [] p told_memory
unfolding Ran
lost m lose (Done t) may = inr (may, refl, refl)
lost m lose (Asks to asked next) may = inr (inr (inr (may, refl, refl)))
lost m lose (Reads given) may = inr (may, refl, refl)

done : (m : Actor) (lose : Bool) (t : Told) → Ran m lose [] (Done t) t
unfolding Ran
done m lose t = inl (refl, refl)

all_safe : (config : Config) (m : Actor) (z : History) (whole p : Program Told) (c : Stage) (h : History) (ss : List ServedAt) → Under config m c whole → Has (length z) m ss h → Leads m ss whole c.may_lose p → Safe (rules config) config m z c h p
unfolding Ran
all_safe config m z whole (Done t) c h ss under has leads = (
  λ may g later. (ran_as config m z g c whole ss told_memory under (has_later config (length z) m ss h g later has) (led m ss whole (Done t) c.may_lose told_memory leads (lost m c.may_lose (Done t) may)), tt),
  λ g later. (ran_as config m z g c whole ss t under (has_later config (length z) m ss h g later has) (led m ss whole (Done t) c.may_lose t leads (done m c.may_lose t)), tt),
)
all_safe config m z whole (Asks to asked next) c h ss under has leads = (
  λ may g later. (ran_as config m z g c whole ss told_memory under (has_later config (length z) m ss h g later has) (led m ss whole (Asks to asked next) c.may_lose told_memory leads (lost m c.may_lose (Asks to asked next) may)), tt),
  λ g later steps base.
      let here : Has (length z) m ss g = has_later config (length z) m ss h g later has in (
        tt,
        λ reading r time append allowed after.
            let s : ServedAt = record { by = to; reading = reading; asked = asked; reply = r; append = append; before = g } in
            all_safe config m z whole (next r) (hears m c to r) (entry to reading (Serve m asked r time append) ∷ g) (s ∷ ss) (record { line = under.line; is = under.is; program = under.program; may = under.may })
            (has_serve (length z) m ss g to reading asked r time append here)
            (λ more t ran. subst (λ (l : List ServedAt). Ran m true l whole t) (sym (one_more s ss more)) (leads (s ∷ more) t (inl (s, more, refl, refl, refl, ran)))),
        λ reading k is after.
            all_safe config m z whole (next (reply.Restarted k)) (hears m c to (reply.Restarted k)) (entry to reading (Restarted m k) ∷ g) ss (record { line = under.line; is = under.is; program = under.program; may = under.may })
            (has_restarted (length z) m ss g to reading k here)
            (λ more t ran. leads more t (inr (inl (is, (k, ran))))),
        all_safe config m z whole (next no_memory) (hears m c to no_memory) g ss (record { line = under.line; is = under.is; program = under.program; may = under.may })
            here
            (λ more t ran. leads more t (inr (inr (inl ran)))),
      ),
)
all_safe config m z whole (Reads given) c h ss under has leads = (
  λ may g later. (ran_as config m z g c whole ss told_memory under (has_later config (length z) m ss h g later has) (led m ss whole (Reads given) c.may_lose told_memory leads (lost m c.may_lose (Reads given) may)), tt),
  λ reading g later recorded.
      let here : Has (length z) m ss g = has_later config (length z) m ss h g later has in (
        all_safe config m z whole (given reading) (with_own c (Some reading)) g ss (record { line = under.line; is = under.is; program = under.program; may = under.may })
            here
            (λ more t ran. leads more t (inl (reading, ran))),
        λ t is f on. (
          ran_as config m z f c whole ss t under (has_later config (length z) m ss g f on here)
              (led m ss whole (Reads given) c.may_lose t leads (inl (reading, subst (λ (p : Program Told). Ran m c.may_lose [] p t) (sym is) (done m c.may_lose t)))),
          tt,
        ),
      ),
)

keeping : (config : Config) → Keeping (rules config) config
keeping config = record {
  first_base = tt;
  base = λ h e base fine. tt;
  first_idle = λ m. tt;
  idle = λ h e m keeps base fine other idle. tt;
  starts = λ h m s number line steps base is may idle.
      let e = entry m None (Start number line) in
      all_safe config m h (program_of config m s.keeps line) (program_of config m s.keeps line) (record { keeps = s.keeps; line = Some line; reading = None; limits = limits_of s.keeps.opened; may_lose = true }) (e ∷ h) []
      (record { line = line; is = refl; program = refl; may = (s, refl, may) })
      (record { low = omega arith; served = above_step (length h) m e h (omega arith) ∙ above_none m h })
      (λ more t ran. ran);
}

ran_now : (config : Config) (h : History) (a : Actor) (reading : Option ℕ) (event : Event) (t : ToldAt) → Run config (entry a reading event ∷ h) → Member t (tells_by h (entry a reading event)) →
    RanAs config t.who (served_since t.who t.before) (mover_at config t.who t.before).keeps (mover_at config t.who t.before).line t.told
ran_now config h a reading (Tell number told_now) t run here = elim here [
  | inl is ↦ subst (λ (u : ToldAt). RanAs config u.who (served_since u.who u.before) (mover_at config u.who u.before).keeps (mover_at config u.who u.before).line u.told) (sym is)
      (subst (λ (l : List ServedAt). RanAs config a l (mover_at config a h).keeps (mover_at config a h).line told_now)
      (above_step (length (before_start a h)) a (entry a reading (Tell number told_now)) h (start_low a h) ∙ since_above a h)
      (ends_of (rules config) config (keeping config) (entry a reading (Tell number told_now) ∷ h) h a reading number told_now run.1 (inl (refl, refl))))
  | inr nothing ↦ absurd nothing
]
ran_now config h a reading (Start number line) t run here = absurd here
ran_now config h a reading (Ask to asked) t run here = absurd here
ran_now config h a reading (Serve from asked r time append) t run here = absurd here
ran_now config h a reading (Hear from r) t run here = absurd here
ran_now config h a reading (Restarted from kept) t run here = absurd here

pub told_ran : ToldCommandsRan
unfolding tells Steps
told_ran config [] t run here = absurd here
told_ran config (e ∷ h) t run here = elim (member_cases t (tells_by h e) (tells h) here) [
  | inl now ↦ ran_now config h e.actor e.reading e.event t run now
  | inr deeper ↦ told_ran config h t (run.0, run.1.0) deeper
]
