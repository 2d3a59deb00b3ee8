-- Each refusal that is told has its cause, in every run.
use Rattle.std.proofs.Common.{◌≡◌, ℕ, ◌<◌, true, ◌&&◌, [], ◌∷◌, Option, Some, None, refl, sym, ◌∙◌, ap, subst, inl, inr, ◌⊎◌}
use Rattle.hybrid_time.specs.Time.{greatest_reading}
use Rattle.txn_data.specs.declared.actor.Actor.{Actor}
use Rattle.txn_data.specs.declared.actor.Actor.TheVariants.{Tablet, Status, Session, Applier}
use Rattle.txn_data.specs.declared.command.Command.{Command}
use Rattle.txn_data.specs.declared.config.Config.{Config}
use Rattle.txn_data.specs.declared.request.Request.{Request}
use Rattle.txn_data.specs.declared.reply.Reply.{Reply}
use Rattle.txn_data.specs.declared.told.Told.{Told}
use Rattle.txn_data.specs.declared.told.Told.TheVariants as told
use Rattle.txn_data.specs.declared.told_refusal.ToldRefusal.{ToldRefusal}
use Rattle.txn_data.specs.declared.told_refusal.ToldRefusal.TheVariants as why
use Rattle.txn_data.specs.declared.event.Event.{Event}
use Rattle.txn_data.specs.declared.event.Event.TheVariants.{Start, Ask, Serve, Hear, Tell, Restarted}
use Rattle.txn_types.specs.Lists.{Member, or_else}
use Rattle.txn_types.specs.History.{History, same_actor, is_start}
use Rattle.txn_types.specs.Program as program
use Rattle.txn_types.specs.Program.{Program, Done, Asks, Reads, turn_with}
use Rattle.txn_types.specs.TxnProgram.{refused}
use Rattle.txn_types.specs.Reads.{before_start}
use Rattle.txn_types.specs.Session.{Keeps, Opened}
use Rattle.txn_types.specs.Run.{Mover, Allowed, Steps, Run, CanTell, mover_at, program_of}
use Rattle.txn_types.specs.Cause.{ToldAt, tells, tells_by, Cause, CauseOf, needs_open, needs_closed, works_inside, InDoubt}
use Rattle.law_machines.proofs.Basics.{test_cases, member_cases}
use Rattle.law_apart.proofs.Steps.{start_keeps}
use Rattle.law_courses.specs.Course.{Came, entry_of}
use Rattle.law_courses.specs.Laws.{CouldStart, CameAbout}
use Rattle.law_courses.proofs.Parts.{part_refl}
use Rattle.law_courses.proofs.Courses.{told_came_about}
use Rattle.law_causes.specs.Laws.{EachRefusalHasItsCause}
use Rattle.law_causes.proofs.Goes.{IsMachineName, AllHeard, Goes, goes_came}
use Rattle.law_causes.proofs.Lines.{AtOnce, LineIs, Starts, line_goes}
use Rattle.law_causes.proofs.Ranges.{own_reading, left_at}
use Rattle.law_causes.proofs.Heard.{Heard, all_heard}
use Rattle.law_causes.proofs.Found.{because_cause}
use Rattle.law_causes.proofs.Doubts.{doubts_at}

-- ## what the program of a line came to

abbrev RangeIs : Actor → ToldRefusal → Type 0
RangeIs m w = (n : ℕ) × (w ≡ why.ClockRange m n) × (greatest_reading < n)

told_is : (one two : ToldRefusal) → told.Refused one ≡ told.Refused two → one ≡ two
told_is one two is = cc

done_is : (t u : Told) → Done t ≡ Done u → t ≡ u
done_is t u is = cc

refused_came : (m : Actor) (h low : History) (own had : Option ℕ) (one two : ToldRefusal) → Came m h own low had (refused one) (told.Refused two) → one ≡ two
unfolding Came
refused_came m h low own had one two came = told_is one two came.0

starts_came : (H : Actor → Request → Reply → Type 0) (m : Actor) (s : Keeps) (line : Command) (h low : History) (own : Option ℕ) (p : Program Told) (w : ToldRefusal) → AllHeard H m h low → Starts H m s line p → Came m h own low None p (told.Refused w) →
    LineIs H m s line (told.Refused w) ⊎ RangeIs m w
unfolding Came
starts_came H m s line h low own (Done t) w all starts came = inl (goes_came H (LineIs H m s line) m h low own low None (Done t) (told.Refused w) all (part_refl low) starts came)
starts_came H m s line h low own (Asks to asked next) w all starts came = inl (goes_came H (LineIs H m s line) m h low own low None (Asks to asked next) (told.Refused w) all (part_refl low) starts came)
starts_came H m s line h low own (Reads given) w all starts came =
    let n = came.0 in
    elim (starts n) [
      | inl range ↦ inr (
        n,
        sym (elim came.1 [
          | inl more ↦ refused_came m h low own (or_else None (Some n)) (why.ClockRange m n) w (subst (λ (p : Program Told). Came m h own low (or_else None (Some n)) p (told.Refused w)) range.0 more)
          | inr once ↦ told_is (why.ClockRange m n) w (done_is _ _ (sym range.0 ∙ once))
        ]),
        range.1,
      )
      | inr goes ↦ inl (elim came.1 [
        | inl more ↦ goes_came H (LineIs H m s line) m h low own low (or_else None (Some n)) (given n) (told.Refused w) all (part_refl low) goes more
        | inr once ↦ subst (λ (p : Program Told). Goes H (LineIs H m s line) p) once goes
      ])
    ]

-- ## what is told at once

steps_start : (config : Config) (m : Actor) (h : History) → Steps config h → Steps config (before_start m h)
unfolding Steps before_start
steps_start config m [] steps = steps
steps_start config m (e ∷ h) steps = elim (test_cases (same_actor e.actor m && is_start e.event)) [
  | inl starts ↦ rw starts steps.0
  | inr other ↦ rw other (steps_start config m h steps.0)
]

no_machine : (config : Config) (m : Actor) (s : Keeps) (line : Command) → CouldStart config m s line → IsMachineName m → ⊥
no_machine config (Tablet k) s line could machine = could.2
no_machine config (Status j) s line could machine = could.2
no_machine config (Session i) s line could machine = machine
no_machine config (Applier k) s line could machine = machine

range_told : (m : Actor) (n : ℕ) (s : Mover) (reading : Option ℕ) → CanTell s reading (told.Refused (why.ClockRange m n)) → turn_with s.rest reading ≡ program.Tell (told.Refused (why.ClockRange m n))
range_told m n s reading can = elim can [ inl is ↦ is | inr memory ↦ let wrong = memory.0 in cc ]

module _ (config : Config) (m : Actor) (reading : Option ℕ) (number : ℕ) (h : History) (run : Run config h) (line : Command) (is : (mover_at config m h).line ≡ Some line) where
  doubt_cause : (x : Opened) → (mover_at config m h).keeps.opened ≡ Some x → x.in_doubt ≡ true → InDoubt (mover_at config m h).keeps.opened (before_start m h)
  doubt_cause x there doubt = subst (λ (o : Option Opened). InDoubt o (before_start m h)) (sym there)
      (doubts_at config m (before_start m h) (run.0, steps_start config m h run.1) x (ap (λ (k : Keeps). k.opened) (start_keeps config m h line is) ∙ there) doubt)

  once_cause : (w : ToldRefusal) → AtOnce m (mover_at config m h).keeps line w → CauseOf config (record { who = m; reading = reading; told = told.Refused w; before = h }) w
  once_cause why.NoTxn once = (subst (λ (o : Option Command). needs_open o ≡ true) (sym is) once.0, once.1)
  once_cause why.TxnOpen once = (subst (λ (o : Option Command). needs_closed o ≡ true) (sym is) once.0, once.1)
  once_cause why.InDoubt once = (subst (λ (o : Option Command). works_inside o ≡ true) (sym is) once.0, doubt_cause once.1.0 once.1.1 once.1.2)
  once_cause w once = absurd once

-- ## each

refusal_cause : (config : Config) (m : Actor) (reading : Option ℕ) (number : ℕ) (w : ToldRefusal) (h : History) (o : Option Command) → Run config h → Allowed config h m reading (Tell number (told.Refused w)) → (mover_at config m h).line ≡ o →
    CameAbout config m (entry_of m reading (Tell number (told.Refused w)) ∷ h) (before_start m h) (mover_at config m h).keeps (mover_at config m h).reading o (told.Refused w) →
    CauseOf config (record { who = m; reading = reading; told = told.Refused w; before = h }) w
refusal_cause config m reading number w h None run ok is came = absurd came
refusal_cause config m reading number w h (Some line) run ok is came =
    let t : ToldAt = record { who = m; reading = reading; told = told.Refused w; before = h } in
    let s = mover_at config m h in
    let could = came.0 in
    elim came.1 [
      | inl way ↦ elim (starts_came (Heard config m h) m s.keeps line (entry_of m reading (Tell number (told.Refused w)) ∷ h) (before_start m h) s.reading (program_of config m s.keeps line) w
          (all_heard config m reading number (told.Refused w) h run.1)
          (subst (λ (k : Keeps). Starts (Heard config m h) m k line (program_of config m k line)) could.1 (line_goes (Heard config m h) config m could.0 line could.2)) way) [
            | inl of_line ↦ elim of_line [
              | inl because ↦ because_cause config t run line w is because
              | inr once ↦ once_cause config m reading number h run line is w once
            ]
            | inr range ↦
                let e = range.1 in
                subst (λ (v : ToldRefusal). CauseOf config t v) (sym e) (
                  range.2,
                  inl (
                    refl,
                    own_reading m s.keeps line s.rest reading range.0 (no_machine config m s.keeps line could) (left_at config m h run.1 line is)
                        (range_told m range.0 s reading (subst (λ (v : ToldRefusal). CanTell s reading (told.Refused v)) e ok.3)),
                  ),
                )
          ]
      | inr memory ↦ subst (λ (v : ToldRefusal). CauseOf config t v) (sym (told_is w why.Memory memory)) tt
    ]

told_cause : (config : Config) (m : Actor) (reading : Option ℕ) (number : ℕ) (t : Told) (h : History) → Run config (entry_of m reading (Tell number t) ∷ h) → Run config h → Allowed config h m reading (Tell number t) →
    Cause config (record { who = m; reading = reading; told = t; before = h })
told_cause config m reading number (told.Refused w) h run before ok =
    refusal_cause config m reading number w h (mover_at config m h).line before ok refl
    (told_came_about config (entry_of m reading (Tell number (told.Refused w)) ∷ h) h (entry_of m reading (Tell number (told.Refused w))) run (inl (refl, refl)))
told_cause config m reading number t h run before ok = tt

event_cause : (config : Config) (m : Actor) (reading : Option ℕ) (event : Event) (h : History) (t : ToldAt) → Run config (entry_of m reading event ∷ h) → Run config h → Allowed config h m reading event → Member t (tells_by h (entry_of m reading event)) → Cause config t
event_cause config m reading (Tell number told_now) h t run before ok here = elim here [
  | inl is ↦ subst (λ (u : ToldAt). Cause config u) (sym is) (told_cause config m reading number told_now h run before ok)
  | inr nothing ↦ absurd nothing
]
event_cause config m reading (Start number line) h t run before ok here = absurd here
event_cause config m reading (Ask to asked) h t run before ok here = absurd here
event_cause config m reading (Serve from asked r time append) h t run before ok here = absurd here
event_cause config m reading (Hear from r) h t run before ok here = absurd here
event_cause config m reading (Restarted from kept) h t run before ok here = absurd here

pub causes : EachRefusalHasItsCause
unfolding tells Steps
causes config [] t run here = absurd here
causes config (e ∷ h) t run here = elim (member_cases t (tells_by h e) (tells h) here) [
  | inl now ↦ event_cause config e.actor e.reading e.event h t run (run.0, run.1.0) run.1.1 now
  | inr deeper ↦ causes config h t (run.0, run.1.0) deeper
]
