-- What a session refuses of its own, in every run.
use Rattle.std.proofs.Common.{◌≡◌, ℕ, Bool, true, false, List, Option, Some, None, reverse, refl, sym, ◌∙◌, subst, inl, inr}
use Rattle.txn_data.specs.declared.actor.Actor.{Actor}
use Rattle.txn_data.specs.declared.actor.Actor.TheVariants.{Tablet, Status, Session, Applier}
use Rattle.txn_data.specs.declared.append.Append.TheVariants.{Failed}
use Rattle.txn_data.specs.declared.command.Command.{Command}
use Rattle.txn_data.specs.declared.command.Command.TheVariants as command
use Rattle.txn_data.specs.declared.config.Config.{Config}
use Rattle.txn_data.specs.declared.request.Request.TheVariants as request
use Rattle.txn_data.specs.declared.told.Told.{Told}
use Rattle.txn_data.specs.declared.told.Told.TheVariants as told
use Rattle.txn_data.specs.declared.told_refusal.ToldRefusal.{ToldRefusal}
use Rattle.txn_data.specs.declared.told_refusal.ToldRefusal.TheVariants as why
use Rattle.txn_data.specs.declared.event.Event.{Event}
use Rattle.txn_data.specs.declared.event.Event.TheVariants.{Serve}
use Rattle.txn_data.specs.declared.entry.Entry.{Entry}
use Rattle.txn_types.specs.Lists.{Member}
use Rattle.txn_types.specs.History.{History}
use Rattle.txn_types.specs.Program.{Program, Done}
use Rattle.txn_types.specs.TxnProgram.{refused}
use Rattle.txn_types.specs.Reads.{before_start}
use Rattle.txn_types.specs.Session.{Keeps, Opened, IsOpen}
use Rattle.txn_types.specs.Run.{Run, Mover, CanTell, mover_at, program_of}
use Rattle.txn_types.specs.Cause.{ToldAt, tells, ServedAt, served_since, needs_open, needs_closed, works_inside, end_failed, InDoubt}
use Rattle.txn_promises.specs.Lines.{TellsOrMemory}
use Rattle.txn_promises.specs.Leaves.{asked_since}
use Rattle.txn_promises.specs.Refuses.{AtOnce}
use Rattle.law_machines.proofs.Basics.{eq_true, any_member}
use Rattle.law_open_txns.specs.Transaction.{IsEndOf}
use Rattle.law_open_txns.proofs.Open.{OpenOk, OpenedOk, IdleOk}
use Rattle.law_session_order.proofs.Runs.{idle_ok}
use Rattle.law_courses.specs.Laws.{CouldStart}
use Rattle.law_served.specs.Ran.{Ran}
use Rattle.law_served.specs.Laws.{RanAs}
use Rattle.law_served.proofs.Tellings.{telling, told_at}
use Rattle.law_served.proofs.Runs.{told_ran}
use Rattle.law_at_once.specs.Laws.{EarlyOf, EarlyRefusal, RefusedAtOnce}
use Rattle.law_at_once.proofs.Late.{is_commit, MayAbort}
use Rattle.law_at_once.proofs.Starts.{start_keeps, start_idle, steps_start}
use Rattle.law_at_once.proofs.Asked.{Going, going_at, tells_range, tells_aborted, tells_early}

-- ## what the programs of such lines are

none_open : (config : Config) (m : Actor) (s : Keeps) (line : Command) → CouldStart config m s line → needs_open (Some line) ≡ true → s.opened ≡ None → program_of config m s line ≡ refused why.NoTxn
none_open config (Session i) s (command.Put place v) could needs is = rw is refl
none_open config (Session i) s (command.Del place) could needs is = rw is refl
none_open config (Session i) s command.Commit could needs is = rw is refl
none_open config (Session i) s command.Abort could needs is = rw is refl
none_open config (Session i) s line could needs is = cc
none_open config (Applier k) s line could needs is = let wrong : needs_open (Some (command.Apply k)) ≡ true = subst (λ (l : Command). needs_open (Some l) ≡ true) could.2.1 needs in cc
none_open config (Tablet k) s line could needs is = absurd could.2
none_open config (Status j) s line could needs is = absurd could.2

some_open : (o : Option Opened) → IsOpen o → (x : Opened) × (o ≡ Some x)
some_open None open_now = absurd open_now
some_open (Some x) open_now = (x, refl)

closed_wanted : (config : Config) (m : Actor) (s : Keeps) (line : Command) (x : Opened) → CouldStart config m s line → needs_closed (Some line) ≡ true → s.opened ≡ Some x → program_of config m s line ≡ refused why.TxnOpen
closed_wanted config (Session i) s (command.Begin priority) x could needs is = rw is refl
closed_wanted config (Session i) s (command.SinglePut place v priority) x could needs is = rw is refl
closed_wanted config (Session i) s (command.SingleDel place priority) x could needs is = rw is refl
closed_wanted config (Session i) s line x could needs is = cc
closed_wanted config (Applier k) s line x could needs is = let wrong : needs_closed (Some (command.Apply k)) ≡ true = subst (λ (l : Command). needs_closed (Some l) ≡ true) could.2.1 needs in cc
closed_wanted config (Tablet k) s line x could needs is = absurd could.2
closed_wanted config (Status j) s line x could needs is = absurd could.2

pub doubt_program : (config : Config) (m : Actor) (s : Keeps) (line : Command) (x : Opened) → CouldStart config m s line → works_inside (Some line) ≡ true → s.opened ≡ Some x → x.in_doubt ≡ true → program_of config m s line ≡ refused why.InDoubt
doubt_program config (Session i) s (command.Put place v) x could inside is doubt = rw is (rw doubt refl)
doubt_program config (Session i) s (command.Del place) x could inside is doubt = rw is (rw doubt refl)
doubt_program config (Session i) s (command.Read strict places) x could inside is doubt = rw is (rw doubt refl)
doubt_program config (Session i) s (command.Scan strict place) x could inside is doubt = rw is (rw doubt refl)
doubt_program config (Session i) s line x could inside is doubt = cc
doubt_program config (Applier k) s line x could inside is doubt = let wrong : works_inside (Some (command.Apply k)) ≡ true = subst (λ (l : Command). works_inside (Some l) ≡ true) could.2.1 inside in cc
doubt_program config (Tablet k) s line x could inside is doubt = absurd could.2
doubt_program config (Status j) s line x could inside is doubt = absurd could.2

-- what a program that refuses at once came to
pub at_once : (m : Actor) (lose : Bool) (ss : List ServedAt) (p : Program Told) (t : Told) (w : ToldRefusal) → p ≡ refused w → Ran m lose ss p t → TellsOrMemory t w
unfolding Ran
at_once m lose ss p t w is ran = done (subst (λ (q : Program Told). Ran m lose ss q t) is ran)
  where
    done : Ran m lose ss (Done (told.Refused w)) t → TellsOrMemory t w
    done came = elim came [ inl told_it ↦ inl (sym told_it.1) | inr none ↦ inr none.2 ]

-- ## one in doubt

end_of : (x : ℕ) (event : Event) → end_failed x event ≡ true → IsEndOf x event
end_of x (Serve from (request.Commit y floor tablets) r time Failed) is = (eq_true y x is, tt)
end_of x (Serve from (request.Abort y) r time Failed) is = (eq_true y x is, tt)
end_of x event is = cc

doubt_now : (b : Bool) → (b ≡ false → ⊥) → b ≡ true
doubt_now true not = refl
doubt_now false not = absurd (not refl)

-- where the line is one of a session
session_of_line : (config : Config) (m : Actor) (s : Keeps) (line : Command) → CouldStart config m s line → works_inside (Some line) ≡ true → (i : ℕ) × (m ≡ Session i)
session_of_line config (Session i) s line could inside = (i, refl)
session_of_line config (Applier k) s line could inside = let wrong : works_inside (Some (command.Apply k)) ≡ true = subst (λ (l : Command). works_inside (Some l) ≡ true) could.2.1 inside in cc
session_of_line config (Tablet k) s line could inside = absurd could.2
session_of_line config (Status j) s line could inside = absurd could.2

-- what a session knew of its open transaction when the command began
pub open_then : (config : Config) (i : ℕ) (h : History) (line : Command) (x : Opened) → Run config h → (mover_at config (Session i) h).line ≡ Some line → (mover_at config (Session i) h).keeps.opened ≡ Some x →
    OpenOk config (before_start (Session i) h) (Session i) (mover_at config (Session i) h).keeps.last (mover_at config (Session i) h).keeps.serial x
open_then config i h line x run is there =
    let z = before_start (Session i) h in
    let idle = idle_ok config z i (run.0, steps_start config (Session i) h run.1) (start_idle config (Session i) h line run.1 is) in
    let keeps : (mover_at config (Session i) z).keeps ≡ (mover_at config (Session i) h).keeps = start_keeps config (Session i) h line is in
    let known : IdleOk config z (Session i) (mover_at config (Session i) h).keeps = subst (λ (k : Keeps). IdleOk config z (Session i) k) keeps idle in
    subst (λ (o : Option Opened). OpenedOk config z (Session i) (mover_at config (Session i) h).keeps.last (mover_at config (Session i) h).keeps.serial o) there known.opened

doubted : (config : Config) (i : ℕ) (h : History) (line : Command) (x : Opened) → Run config h → (mover_at config (Session i) h).line ≡ Some line → (mover_at config (Session i) h).keeps.opened ≡ Some x →
    InDoubt (Some x) (before_start (Session i) h) → x.in_doubt ≡ true
doubted config i h line x run is there failed =
    let ok = open_then config i h line x run is there in
    let e = any_member (λ (f : Entry). end_failed x.meta.txn f.event) (before_start (Session i) h) failed in
    doubt_now x.in_doubt (λ free. ok.free free e.0 e.1 (end_of x.meta.txn e.0.event e.2))

-- ## each

module _ (config : Config) (h : History) (t : ToldAt) (run : Run config h) (here : Member t (tells h)) where
  abbrev m : Mover
  m = mover_at config t.who t.before

  place : Run config t.before × CanTell (mover_at config t.who t.before) t.reading t.told
  place = let at = telling h t here in let both = told_at config h t run at in (both.0, both.1.3)

  by_line : (o : Option Command) → (mover_at config t.who t.before).line ≡ o → RanAs config t.who (served_since t.who t.before) (mover_at config t.who t.before).keeps o t.told → AtOnce config t × EarlyRefusal t
  by_line None is ran = absurd ran
  by_line (Some line) is ran = (
    record {
      none_open = λ needs closed. at_once t.who true (reverse (served_since t.who t.before)) (program_of config t.who m.keeps line) t.told why.NoTxn
          (none_open config t.who m.keeps line ran.0 (subst (λ (o : Option Command). needs_open o ≡ true) is needs) closed) ran.1;
      is_open = λ needs open_now.
          let x = some_open m.keeps.opened open_now in
          at_once t.who true (reverse (served_since t.who t.before)) (program_of config t.who m.keeps line) t.told why.TxnOpen
          (closed_wanted config t.who m.keeps line x.0 ran.0 (subst (λ (o : Option Command). needs_closed o ≡ true) is needs) x.1) ran.1;
      in_doubt = λ inside doubt. doubt_told m.keeps.opened refl (subst (λ (o : Option Command). works_inside o ≡ true) is inside) doubt;
      out_of_range = λ n reads. tells_range t.who (is_commit (Some line)) (asked_since t.who t.before) (mover_at config t.who t.before) n t.told going.early (subst (λ (r : Option ℕ). CanTell (mover_at config t.who t.before) r t.told) reads place.1);
      in_range = going.range;
    },
    early t.told place.1,
  )
    where
      going : Going t.who (asked_since t.who t.before) (mover_at config t.who t.before) line
      going = going_at config t.who t.before line place.0.1 is

      as_session : (i : ℕ) (o : Option Opened) (w : Actor) → w ≡ Session i → (mover_at config w t.before).line ≡ Some line → (mover_at config w t.before).keeps.opened ≡ o → InDoubt o (before_start w t.before) → (x : Opened) × ((o ≡ Some x) × (x.in_doubt ≡ true))
      as_session i None w who at there doubt = absurd doubt
      as_session i (Some x) w who at there doubt = (
        x,
        (
          refl,
          doubted config i t.before line x place.0
              (subst (λ (a : Actor). (mover_at config a t.before).line ≡ Some line) who at)
              (subst (λ (a : Actor). (mover_at config a t.before).keeps.opened ≡ Some x) who there)
              (subst (λ (a : Actor). InDoubt (Some x) (before_start a t.before)) who doubt),
        ),
      )

      doubt_told : (o : Option Opened) → (mover_at config t.who t.before).keeps.opened ≡ o → works_inside (Some line) ≡ true → InDoubt (mover_at config t.who t.before).keeps.opened (before_start t.who t.before) → TellsOrMemory t.told why.InDoubt
      doubt_told o there inside doubt =
          let i = session_of_line config t.who m.keeps line ran.0 inside in
          let x = as_session i.0 o t.who i.1 is there (subst (λ (p : Option Opened). InDoubt p (before_start t.who t.before)) there doubt) in
          at_once t.who true (reverse (served_since t.who t.before)) (program_of config t.who m.keeps line) t.told why.InDoubt
          (doubt_program config t.who m.keeps line x.0 ran.0 inside (there ∙ x.1.0) x.1.1) ran.1

      early : (u : Told) → CanTell (mover_at config t.who t.before) t.reading u → EarlyOf t u
      early (told.Refused w) can = λ is_one. tells_early t.who (is_commit (Some line)) (asked_since t.who t.before) (mover_at config t.who t.before) t.reading w going.early can is_one
      early u can = tt

pub refused_at_once : RefusedAtOnce
refused_at_once config h t run here = by_line config h t run here (mover_at config t.who t.before).line refl (told_ran config h t run here)

-- Aborted is told only to a commit
pub aborted_ends : (config : Config) (h : History) (t : ToldAt) (line : Command) → Run config h → Member t (tells h) → (mover_at config t.who t.before).line ≡ Some line → MayAbort (is_commit (Some line)) t.told
aborted_ends config h t line run here is =
    let p = place config h t run here in
    tells_aborted t.who (is_commit (Some line)) (asked_since t.who t.before) (mover_at config t.who t.before) t.reading t.told (going_at config t.who t.before line p.0.1 is).early p.1
