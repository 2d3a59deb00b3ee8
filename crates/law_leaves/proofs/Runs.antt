-- What a refusal leaves, in every run.
use Rattle.std.proofs.Common.{◌≡◌, ℕ, ◌+◌, Bool, true, false, ◌∷◌, Option, Some, None, refl, sym, ◌∙◌, ap, subst, inl, inr, ◌⊎◌, if◌then◌else◌, arith}
use Rattle.txn_data.specs.declared.actor.Actor.{Actor}
use Rattle.txn_data.specs.declared.actor.Actor.TheVariants.{Tablet, Status, Session, Applier}
use Rattle.txn_data.specs.declared.command.Command.{Command}
use Rattle.txn_data.specs.declared.command.Command.TheVariants as command
use Rattle.txn_data.specs.declared.config.Config.{Config}
use Rattle.txn_data.specs.declared.told.Told.{Told}
use Rattle.txn_data.specs.declared.told.Told.TheVariants as told
use Rattle.txn_data.specs.declared.told_refusal.ToldRefusal.{ToldRefusal}
use Rattle.txn_data.specs.declared.told_refusal.ToldRefusal.TheVariants as why
use Rattle.txn_data.specs.declared.event.Event.TheVariants.{Tell}
use Rattle.txn_types.specs.Lists.{Member}
use Rattle.txn_types.specs.History.{History}
use Rattle.txn_types.specs.Session.{Keeps, Opened, keeps_after, moved_by, serial_after}
use Rattle.txn_types.specs.Run.{Run, Mover, mover_at, session_of}
use Rattle.txn_types.specs.Reads.{open_txn}
use Rattle.txn_types.specs.Cause.{ToldAt, tells}
use Rattle.txn_promises.specs.Lines.{is_write}
use Rattle.txn_promises.specs.Leaves.{keeps_told, ends_txn, spends_serial, opened_left, NeverCommits, Ended, SessionLeft, NothingAsked, LeftBy, LeftBehind}
use Rattle.law_machines.proofs.Basics.{same_refl}
use Rattle.law_messages.proofs.Rules.{entry}
use Rattle.law_owners.proofs.Serials.{serial_least}
use Rattle.law_courses.specs.Laws.{CouldStart}
use Rattle.law_served.proofs.Tellings.{Telling, telling}
use Rattle.law_heard.proofs.Runs.{heard_is_told}
use Rattle.law_heard.proofs.Says.{Line, told_line}
use Rattle.law_at_once.specs.Laws.{EarlyOf}
use Rattle.law_at_once.proofs.Late.{is_commit, MayAbort}
use Rattle.law_at_once.proofs.Runs.{refused_at_once, aborted_ends}
use Rattle.law_asked.proofs.Runs.{session_write, aborts_asked, restarts}
use Rattle.law_leaves.specs.Laws.{RefusalsLeave, ConditionsDecide}
use Rattle.law_leaves.proofs.Keeps.{max_zero, serial_left, open_left, keeps_of}
use Rattle.law_leaves.proofs.Limits.{limits_heard}
use Rattle.law_leaves.proofs.Data.{data_left}
use Rattle.law_leaves.proofs.Ids.{Gone, IsId, ids_at}
use Rattle.law_leaves.proofs.Closed.{closed_write, aborted_never, aborted_served, was_free}

-- ## the lines that end a transaction

-- a refusal that ends one is Aborted, told to a commit, or it is told to a write
ends_cases : (line : Command) (w : ToldRefusal) → MayAbort (is_commit (Some line)) (told.Refused w) → ends_txn (Some line) w ≡ true → (is_write (Some line) ≡ true) ⊎ ((by : ℕ) × ((w ≡ why.Aborted by) × (line ≡ command.Commit)))
ends_cases line (why.Conflict other) may ends = inl ends
ends_cases line (why.Overlap at) may ends = inl ends
ends_cases line (why.LogFault a) may ends = inl ends
ends_cases line (why.Aborted by) may ends = inr (by, (refl, commit_of line may))
  where
    commit_of : (l : Command) → is_commit (Some l) ≡ true → l ≡ command.Commit
    commit_of command.Commit is = refl
    commit_of l is = cc
ends_cases line w may ends = cc

session_commit : (config : Config) (m : Actor) (s : Keeps) (line : Command) → CouldStart config m s line → line ≡ command.Commit → (i : ℕ) × (m ≡ Session i)
session_commit config (Session i) s line could is = (i, refl)
session_commit config (Applier k) s line could is = let wrong : command.Commit ≡ command.Apply k = sym is ∙ could.2.1 in cc
session_commit config (Tablet k) s line could is = absurd could.2
session_commit config (Status j) s line could is = absurd could.2

-- ## the state once it was told

module _ (config : Config) (h : History) (t : ToldAt) (w : ToldRefusal) (run : Run config h) (here : Member t (tells h)) (is : t.told ≡ told.Refused w) where
  line : Line config t
  line = told_line config h t run here

  abbrev m : Mover
  m = mover_at config t.who t.before

  may : MayAbort (is_commit (Some line.line)) (told.Refused w)
  may = subst (MayAbort (is_commit (Some line.line))) is (aborted_ends config h t line.line run here line.is)

  keeps_are : keeps_told config t ≡ keeps_after config (session_of t.who) m.keeps line.line m.reading m.limits (told.Refused w)
  keeps_are = subst (λ (u : Told). keeps_told config (record t { told = u }) ≡ keeps_after config (session_of t.who) m.keeps line.line m.reading m.limits (told.Refused w)) (sym is) (keeps_of config t.who m line.line w line.is)

  opened_is : (keeps_told config t).opened ≡ opened_left m.line m.limits w m.keeps.opened
  opened_is = ap (λ (k : Keeps). k.opened) keeps_are ∙ (open_left config (session_of t.who) m.keeps line.line m.reading m.limits w m.keeps.opened may ∙ ap (λ (o : Option Command). opened_left o m.limits w m.keeps.opened) (sym line.is))

  at : Telling h t
  at = telling h t here

  -- the state of the mover after the entry
  told_state : (a : Actor) (u : Told) (number : ℕ) (b : History) → (mover_at config a (entry a t.reading (Tell number u) ∷ b)).keeps ≡ keeps_told config (record { who = a; reading = t.reading; told = u; before = b })
  unfolding mover_at
  told_state a u number b = rw (same_refl a) refl

  gone_told : (i : ℕ) (x : Opened) → t.who ≡ Session i → m.keeps.opened ≡ Some x → ends_txn m.line w ≡ true → Gone (Session i) x.meta.txn (keeps_told config t)
  gone_told i x who there ends =
      let id : IsId t.who m.keeps.serial x.meta.txn = ids_at config t.who t.before x there in
      let closed : (keeps_told config t).opened ≡ None = opened_is ∙ closed_of m.line there ends in
      let serial : (keeps_told config t).serial ≡ serial_after m.keeps line.line (told.Refused w) = ap (λ (k : Keeps). k.serial) keeps_are in (
        λ still. let wrong : open_txn None ≡ Some x.meta.txn = subst (λ (o : Option Opened). open_txn o ≡ Some x.meta.txn) closed still in cc,
        subst (λ (n : ℕ). IsId (Session i) n x.meta.txn) (sym serial)
            (subst (λ (a : Actor). IsId a (serial_after m.keeps line.line (told.Refused w)) x.meta.txn) who (more id)),
      )
    where
      closed_of : (o : Option Command) → m.keeps.opened ≡ Some x → ends_txn o w ≡ true → opened_left o m.limits w m.keeps.opened ≡ None
      closed_of o same now = rw same (rw now refl)

      more : IsId t.who m.keeps.serial x.meta.txn → IsId t.who (serial_after m.keeps line.line (told.Refused w)) x.meta.txn
      more id = let low = id.1.1 in let up = serial_least m.keeps line.line (told.Refused w) in (id.0, (id.1.0, omega (arith, low, up)))

  write_never : (i : ℕ) (x : Opened) (a : Actor) → a ≡ Session i → t.who ≡ a → m.keeps.opened ≡ Some x → is_write (Some line.line) ≡ true → ends_txn (Some line.line) w ≡ true → NeverCommits h x.meta.txn
  write_never i x a who same there writes ends =
      let mine : t.who ≡ Session i = same ∙ who in
      let gone = gone_told i x mine there (subst (λ (o : Option Command). ends_txn o w ≡ true) (sym line.is) ends) in
      closed_write config h t i line.line x run at mine
      (subst (λ (b : Actor). (mover_at config b t.before).line ≡ Some line.line) mine line.is)
      (subst (λ (b : Actor). (mover_at config b t.before).keeps.opened ≡ Some x) mine there)
      writes (was_free config h t line.line x w run here line.is there writes ends is)
      (subst (λ (k : Keeps). Gone (Session i) x.meta.txn k) (sym (told_state (Session i) t.told at.number t.before)) (subst (λ (b : Actor). Gone (Session i) x.meta.txn (keeps_told config (record { who = b; reading = t.reading; told = t.told; before = t.before }))) mine gone))

  ended_now : (o : Option Opened) → m.keeps.opened ≡ o → (b : Bool) → ends_txn m.line w ≡ b → Ended h b o
  ended_now None there b ends = no_open b
    where
      no_open : (c : Bool) → Ended h c None
      no_open true = tt
      no_open false = tt
  ended_now (Some x) there false ends = tt
  ended_now (Some x) there true ends =
      let now : ends_txn (Some line.line) w ≡ true = subst (λ (o : Option Command). ends_txn o w ≡ true) line.is ends in
      elim (ends_cases line.line w may now) [
        | inl writes ↦ let i = session_write config t.who m.keeps line.line line.could writes in write_never i.0 x t.who i.1 refl there writes now
        | inr aborted ↦
            let i = session_commit config t.who m.keeps line.line line.could aborted.1.1 in
            aborted_never config h t x.meta.txn aborted.0 run at
            (aborted_served config h t i.0 x aborted.0 run here i.1 (line.is ∙ ap Some aborted.1.1) there (is ∙ ap told.Refused aborted.1.0))
      ]

  session_left : SessionLeft config h t w
  session_left = record {
    time = ap (λ (k : Keeps). k.last) keeps_are ∙ max_zero (moved_by m.keeps.last m.reading);
    serial = ap (λ (k : Keeps). k.serial) keeps_are ∙ (serial_left m.keeps line.line w ∙ ap (λ (o : Option Command). if spends_serial o w then m.keeps.serial + 1 else m.keeps.serial) (sym line.is));
    opened = opened_is;
    limits = λ k. limits_heard config k t.who t.before line.line line.is;
    ended = ended_now m.keeps.opened refl (ends_txn m.line w) refl;
  }

  left_by : NothingAsked t w → LeftBy config h t w
  left_by asked =
      let aborts = aborts_asked config h t w run here is in
      record { session = session_left; logs = data_left config h t w run here is (λ a there. restarts config h t w a run here is there); asked = asked; aborts = aborts.0; closing = aborts.1 }

leaves_of : (config : Config) (h : History) (t : ToldAt) (u : Told) → Run config h → Member t (tells h) → t.told ≡ u → EarlyOf t u → LeftBehind config h t u
leaves_of config h t (told.Refused w) run here is asked = left_by config h t w run here is asked
leaves_of config h t u run here is asked = tt

pub leaves : RefusalsLeave
leaves config h t run here = leaves_of config h t t.told run here refl (refused_at_once config h t run here).1

pub decide : ConditionsDecide
decide config h t run here = record { heard = heard_is_told config h t run here; at_once = (refused_at_once config h t run here).0 }
