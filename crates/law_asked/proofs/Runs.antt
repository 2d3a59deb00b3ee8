-- What a refused command asked, in every run.
use Rattle.std.proofs.Common.{◌≡◌, ℕ, Bool, true, false, Option, Some, refl, sym, ◌∙◌, subst, inl, inr}
use Rattle.txn_data.specs.declared.actor.Actor.{Actor}
use Rattle.txn_data.specs.declared.actor.Actor.TheVariants.{Tablet, Status, Session, Applier}
use Rattle.txn_data.specs.declared.command.Command.{Command}
use Rattle.txn_data.specs.declared.command.Command.TheVariants as command
use Rattle.txn_data.specs.declared.config.Config.{Config}
use Rattle.txn_data.specs.declared.request.Request.TheVariants as request
use Rattle.txn_data.specs.declared.told.Told.{Told}
use Rattle.txn_data.specs.declared.told.Told.TheVariants as told
use Rattle.txn_data.specs.declared.told_refusal.ToldRefusal.{ToldRefusal}
use Rattle.txn_data.specs.declared.told_refusal.ToldRefusal.TheVariants as why
use Rattle.txn_data.specs.declared.event.Event.TheVariants.{Tell}
use Rattle.txn_types.specs.Lists.{Member}
use Rattle.txn_types.specs.History.{History}
use Rattle.txn_types.specs.Session.{Keeps}
use Rattle.txn_types.specs.Run.{Run, IsMachine, Allowed, Mover, mover_at}
use Rattle.txn_types.specs.Reads.{open_txn}
use Rattle.txn_types.specs.Cause.{ToldAt, tells}
use Rattle.txn_promises.specs.Lines.{is_write, is_restart}
use Rattle.txn_promises.specs.Leaves.{ends_txn, MayFail, AbortsAsked, NoAbort, ClosingAsked, Closes, asked_since, restarted_since}
use Rattle.law_courses.specs.Laws.{CouldStart}
use Rattle.law_served.proofs.Tellings.{Telling, telling, told_at}
use Rattle.law_heard.proofs.Means.{IsAsked, shuts}
use Rattle.law_heard.proofs.Says.{Line, told_line}
use Rattle.law_at_once.proofs.Late.{is_commit, MayAbort}
use Rattle.law_at_once.proofs.Runs.{aborted_ends}
use Rattle.law_asked.specs.Laws.{AbortsAreAsked, RestartsAreTold}
use Rattle.law_asked.proofs.Asking.{asked_at}
use Rattle.law_asked.proofs.Closing.{OpenIs, open_is, closing_asked, none_asked}
use Rattle.law_asked.proofs.Restarts.{restarts_told}

pub session_write : (config : Config) (m : Actor) (s : Keeps) (line : Command) → CouldStart config m s line → is_write (Some line) ≡ true → (i : ℕ) × (m ≡ Session i)
session_write config (Session i) s line could writes = (i, refl)
session_write config (Applier k) s line could writes = let wrong : is_write (Some (command.Apply k)) ≡ true = subst (λ (l : Command). is_write (Some l) ≡ true) could.2.1 writes in cc
session_write config (Tablet k) s line could writes = absurd could.2
session_write config (Status j) s line could writes = absurd could.2

-- of a write, a refusal shuts its transaction just where it ends it
pub ends_shuts : (line : Command) (w : ToldRefusal) → MayAbort (is_commit (Some line)) (told.Refused w) → is_write (Some line) ≡ true → shuts w ≡ ends_txn (Some line) w
ends_shuts line (why.Conflict other) may writes = sym writes
ends_shuts line (why.Overlap at) may writes = sym writes
ends_shuts line (why.LogFault a) may writes = sym writes
ends_shuts line (why.Aborted by) may writes = no_commit line may writes
  where
    no_commit : (l : Command) → is_commit (Some l) ≡ true → is_write (Some l) ≡ true → shuts (why.Aborted by) ≡ true
    no_commit command.Commit commits write_too = cc
    no_commit l commits write_too = cc
ends_shuts line w may writes = refl

no_machine : (config : Config) (m : Actor) (s : Keeps) (line : Command) → CouldStart config m s line → IsMachine config m → ⊥
no_machine config (Tablet k) s line could machine = could.2
no_machine config (Status j) s line could machine = could.2
no_machine config (Session i) s line could machine = machine
no_machine config (Applier k) s line could machine = machine

module _ (config : Config) (h : History) (t : ToldAt) (w : ToldRefusal) (run : Run config h) (here : Member t (tells h)) (is : t.told ≡ told.Refused w) where
  line : Line config t
  line = told_line config h t run here

  abbrev m : Mover
  m = mover_at config t.who t.before

  may : MayAbort (is_commit (Some line.line)) (told.Refused w)
  may = subst (MayAbort (is_commit (Some line.line))) is (aborted_ends config h t line.line run here line.is)

  at : Telling h t
  at = telling h t here

  -- what allowed the entry that tells
  place : Run config t.before × Allowed config t.before t.who t.reading (Tell at.number (told.Refused w))
  place = let both = told_at config h t run at in (both.0, subst (λ (u : Told). Allowed config t.before t.who t.reading (Tell at.number u)) is both.1)

  -- a put or a del
  writes_asked : (i x : ℕ) (a : Actor) → a ≡ Session i → is_write (Some line.line) ≡ true → Allowed config t.before a t.reading (Tell at.number (told.Refused w)) → (mover_at config a t.before).line ≡ Some line.line → OpenIs x (mover_at config a t.before).keeps.opened →
      (shuts w ≡ true → ClosingAsked x (asked_since a t.before)) × (shuts w ≡ false → NoAbort (asked_since a t.before))
  writes_asked i x a who writes ok same there =
      subst (λ (b : Actor). (shuts w ≡ true → ClosingAsked x (asked_since b t.before)) × (shuts w ≡ false → NoAbort (asked_since b t.before))) (sym who)
      (closing_asked config t.before i x at.number t.reading line.line w place.0 told_here under_way writes opened, none_asked config t.before i x at.number t.reading line.line w place.0 told_here under_way writes opened)
    where
      told_here : Allowed config t.before (Session i) t.reading (Tell at.number (told.Refused w))
      told_here = subst (λ (b : Actor). Allowed config t.before b t.reading (Tell at.number (told.Refused w))) who ok

      under_way : (mover_at config (Session i) t.before).line ≡ Some line.line
      under_way = subst (λ (b : Actor). (mover_at config b t.before).line ≡ Some line.line) who same

      opened : OpenIs x (mover_at config (Session i) t.before).keeps.opened
      opened = subst (λ (b : Actor). OpenIs x (mover_at config b t.before).keeps.opened) who there

  of_write : (x : ℕ) → is_write (Some line.line) ≡ true → open_txn m.keeps.opened ≡ Some x → (shuts w ≡ true → ClosingAsked x (asked_since t.who t.before)) × (shuts w ≡ false → NoAbort (asked_since t.who t.before))
  of_write x writes there =
      let i = session_write config t.who m.keeps line.line line.could writes in
      writes_asked i.0 x t.who i.1 writes place.1 line.is (open_is x m.keeps.opened there)

  closes : Closes config t w
  closes x writes ends there =
      let now_writes : is_write (Some line.line) ≡ true = subst (λ (o : Option Command). is_write o ≡ true) line.is writes in
      let now_ends : ends_txn (Some line.line) w ≡ true = subst (λ (o : Option Command). ends_txn o w ≡ true) line.is ends in
      (of_write x now_writes there).0 (ends_shuts line.line w may now_writes ∙ now_ends)

  may_ask : (x : ℕ) (to : Actor) → IsAsked (Some line.line) m.keeps.opened to (request.Abort x) → Member (request.Abort x) (asked_since t.who t.before) → MayFail (Some line.line) m.keeps.opened w (request.Abort x)
  may_ask x to kind asked = elim kind.0 [
    | inl writes ↦ by_ending (ends_txn (Some line.line) w) refl writes
    | inr aborts ↦ inr (aborts, kind.1)
  ]
    where
      by_ending : (b : Bool) → ends_txn (Some line.line) w ≡ b → is_write (Some line.line) ≡ true → MayFail (Some line.line) m.keeps.opened w (request.Abort x)
      by_ending true ends writes = inl (writes, ends, kind.1)
      by_ending false goes_on writes = absurd ((of_write x writes kind.1).1 (ends_shuts line.line w may writes ∙ goes_on) x asked)

  aborts : AbortsAsked config t w
  aborts x asked =
      let kind = asked_at config t.who t.before place.0.1 line.line line.is (request.Abort x) asked in
      subst (λ (o : Option Command). MayFail o m.keeps.opened w (request.Abort x)) (sym line.is) (may_ask x kind.0 kind.1 asked)

  restarted : (a : Actor) → Member a (restarted_since t.who t.before) → (is_restart m.line ≡ true) × (w ≡ why.Memory)
  restarted a there =
      let both = restarts_told config t.before t.who t.reading at.number line.line w a (no_machine config t.who m.keeps line.line line.could) place.0 place.1 line.is there in
      (subst (λ (o : Option Command). is_restart o ≡ true) (sym line.is) both.0, both.1)

pub aborts_asked : AbortsAreAsked
aborts_asked config h t refusal run here is = (aborts config h t refusal run here is, closes config h t refusal run here is)

pub restarts : RestartsAreTold
restarts config h t refusal a run here is there = restarted config h t refusal run here is a there
