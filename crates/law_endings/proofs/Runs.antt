-- What was told Ended never commits.
use Rattle.std.proofs.Common.{◌≡◌, ℕ, true, ◌∷◌, Option, Some, None, refl, sym, ◌∙◌, ap, subst, inl, inr, ◌⊎◌}
use Rattle.txn_data.specs.declared.actor.Actor.{Actor}
use Rattle.txn_data.specs.declared.actor.Actor.TheVariants.{Status, Session}
use Rattle.txn_data.specs.declared.append.Append.{Append}
use Rattle.txn_data.specs.declared.append.Append.TheVariants.{Took}
use Rattle.txn_data.specs.declared.command.Command.{Command}
use Rattle.txn_data.specs.declared.command.Command.TheVariants as command
use Rattle.txn_data.specs.declared.committed_txn.CommittedTxn.{CommittedTxn}
use Rattle.txn_data.specs.declared.config.Config.{Config}
use Rattle.txn_data.specs.declared.request.Request.{Request}
use Rattle.txn_data.specs.declared.request.Request.TheVariants as request
use Rattle.txn_data.specs.declared.reply.Reply.{Reply}
use Rattle.txn_data.specs.declared.reply.Reply.TheVariants as reply
use Rattle.txn_data.specs.declared.told.Told.{Told}
use Rattle.txn_data.specs.declared.told.Told.TheVariants as told
use Rattle.txn_data.specs.declared.told_refusal.ToldRefusal.TheVariants as told_refusal
use Rattle.txn_data.specs.declared.event.Event.{Event}
use Rattle.txn_data.specs.declared.event.Event.TheVariants.{Serve, Tell}
use Rattle.txn_data.specs.declared.entry.Entry.{Entry}
use Rattle.txn_types.specs.Lists.{Member}
use Rattle.txn_types.specs.History.{History, own, was_logged}
use Rattle.txn_types.specs.Status.{NoRecord, record_of}
use Rattle.txn_types.specs.Committed.{committed, single_by}
use Rattle.txn_types.specs.Program.{Program, Done}
use Rattle.txn_types.specs.TxnProgram.{refused}
use Rattle.txn_types.specs.Reads.{before_start}
use Rattle.txn_types.specs.Session.{Keeps, Opened, commit_command, abort_command}
use Rattle.txn_types.specs.Run.{Allowed, Run, mover_at, program_of, session_of}
use Rattle.txn_types.specs.Cause.{ToldAt, tells, ServedAt, own_then}
use Rattle.law_machines.specs.Own.{StandsOver}
use Rattle.law_machines.proofs.Counted.{WasServed}
use Rattle.law_machines.proofs.Owns.{stands_member}
use Rattle.law_clocks.proofs.Runs.{member_before}
use Rattle.law_courses.specs.Course.{Came, entry_of}
use Rattle.law_courses.specs.Laws.{CameAbout}
use Rattle.law_courses.proofs.Courses.{told_came_about}
use Rattle.law_messages.proofs.Rules.{told_memory}
use Rattle.law_owners.specs.Owner.{home_of}
use Rattle.law_owners.proofs.Runs.{single_uses, IsSingleOf}
use Rattle.law_fates.proofs.Life.{Life, Finished, Dead, life, dead_stays}
use Rattle.law_fates.proofs.Runs.{home_log, home_lands, committed_finished}
use Rattle.law_told_commits.proofs.Commits.{Begins, Snapshot, Single, kind_of, one_user, begins_uses, not_both}
use Rattle.law_answers.proofs.Runs.{each_answered}
use Rattle.law_left.proofs.Rests.{stands_in}
use Rattle.law_left.proofs.Fates.{in_home_log, later_life}
use Rattle.txn_promises.specs.Answers.{txn_of_line, IsAnswerTo, IsRefusal}
use Rattle.txn_promises.specs.Ends.{IsEnd}
use Rattle.law_endings.specs.Laws.{EndedNeverCommits}
use Rattle.law_closings.proofs.Rules.{BeginsFor}
use Rattle.law_endings.proofs.OneAsk.{OfNone, OfOne, Unsettled}
use Rattle.law_endings.proofs.Tables.{ended_record}
use Rattle.law_endings.proofs.Records.{IsAbort, abort_leaves}
use Rattle.law_endings.proofs.Lives.{absent_dead}
use Rattle.law_endings.proofs.Asked.{IsAbortLine, place_of, commit_gone, abort_ended, EndAt, end_at, then_home, served_as, commit_came, abort_came}
use Rattle.law_endings.proofs.Told.{ended_one, serves_abort, NoPass, abort_passes, told_session, Told_, told_here}

-- ## what was told Ended never commits

-- it is dead in the end, and was begun
pub record IsDead_ (config : Config) (h : History) (x : ℕ) : Type 0 where
  pub dead : life x (home_log config x h) ≡ Dead
  pub begin : Entry
  pub member : Member begin h
  pub begins : Begins x begin.event

begins_plain : (m : Actor) (x : ℕ) (event : Event) → BeginsFor m x event → Begins x event
begins_plain m x (Serve from (request.Begin y isolation priority) reply.Begun time append) is = is.1
begins_plain m x event is = absurd is

dead_not_finished : (v : Life) (c : ℕ) → v ≡ Dead → v ≡ Finished c → ⊥
dead_not_finished v c one two = cc

single_is : (y : CommittedTxn) (event : Event) → Member y (single_by event) → IsSingleOf y.txn event
single_is y (Serve from (request.Single z path o seen fates) r (Some c) append) m = elim m [ inl is ↦ sym (ap (λ (u : CommittedTxn). u.txn) is) | inr none ↦ absurd none ]
single_is y event m = absurd m

never_commits : (config : Config) (h : History) (x : ℕ) (y : CommittedTxn) → Run config h → IsDead_ config h x → Member y (committed h) → y.txn ≡ x → ⊥
never_commits config h x y run is m same = elim (kind_of h y m) [
  | Snapshot at ↦ subst (λ (z : ℕ). life z (home_log config z h) ≡ Dead → ⊥) same (λ dead. dead_not_finished (life y.txn (home_log config y.txn h)) y.at dead (committed_finished config h y.txn y.at run at)) is.dead
  | Single e in_h counts single ↦
      let of : IsSingleOf x e.event = subst (λ (z : ℕ). IsSingleOf z e.event) same (single_is y e.event single) in
      let one = one_user config h is.begin e x run is.member in_h (begins_uses x is.begin.event is.begins) (single_uses x e.event of) in
      not_both x e.event (subst (λ (f : Entry). Begins x f.event) one is.begins) of
]

dead_at : (config : Config) (h : History) (m : Actor) (line : Command) (x : ℕ) (s : ServedAt) → EndAt config h m line x s → life x (home_log config x h) ≡ Dead → IsDead_ config h x
dead_at config h m line x s at dead =
    let begun = at.free.begun in
    record { dead = dead; begin = begun.0; member = member_before begun.0 _ s.before h begun.1 at.stands; begins = begins_plain m x begun.0.event begun.2 }

none_dead : (config : Config) (h : History) (m : Actor) (line : Command) (x : ℕ) (s : ServedAt) → EndAt config h m line x s → record_of x (own_then s) ≡ NoRecord → life x (home_log config x h) ≡ Dead
none_dead config h m line x s at none =
    let over = absent_dead config s.before m x at.run at.free (subst (λ (l : History). record_of x l ≡ NoRecord) (then_home config x s at.home) none) in
    dead_stays (life x (home_log config x s.before)) (life x (home_log config x h)) (later_life config h s.before x (stands_in _ s.before h at.stands)) over.0

took_served : (m : Actor) (asked : Request) (r : Reply) (time : Option ℕ) (append : Append) → append ≡ Took → WasServed (Serve m asked r time append) × (was_logged (Serve m asked r time append) ≡ true)
took_served m asked r time append is = subst (λ (a : Append). WasServed (Serve m asked r time a) × (was_logged (Serve m asked r time a) ≡ true)) (sym is) (tt, refl)

took_dead : (config : Config) (h : History) (m : Actor) (line : Command) (x : ℕ) (s : ServedAt) → Run config h → EndAt config h m line x s → IsAbort x (Serve m s.asked s.reply None s.append) → s.append ≡ Took → life x (home_log config x h) ≡ Dead
took_dead config h m line x s run at aborts took =
    let e = entry_of s.by s.reading (Serve m s.asked s.reply at.time s.append) in
    let served = took_served m s.asked s.reply at.time s.append took in
    let in_log : Member e (home_log config x h) = in_home_log config x h e run at.home (stands_member e s.before h at.stands) served.0 served.1 in
    (abort_leaves x (home_log config x h) e (home_lands config x h run) in_log (aborts_any x m s.asked s.reply at.time s.append aborts)).0
  where
    aborts_any : (x : ℕ) (m : Actor) (asked : Request) (r : Reply) (time : Option ℕ) (append : Append) → IsAbort x (Serve m asked r None append) → IsAbort x (Serve m asked r time append)
    aborts_any x m (request.Abort y) r time append is = is
    aborts_any x m asked r time append is = absurd is

module _ (config : Config) (i : ℕ) (h : History) (reading : Option ℕ) (number : ℕ) (t : Told) (run : Run config h) (ok : Allowed config h (Session i) reading (Tell number t)) (o : Opened) (is_open : (mover_at config (Session i) h).keeps.opened ≡ Some o)
    (x : ℕ) (is : t ≡ told.Ended x) where
  abbrev Ended_ : Command → Type 0
  Ended_ line = IsEnd config (record { who = Session i; reading = reading; told = t; before = h }) line x × IsDead_ config h x

  ended_record_of : (line : Command) → (mover_at config (Session i) h).line ≡ Some line → o.meta.txn ≡ x → IsEnd config (record { who = Session i; reading = reading; told = t; before = h }) line x
  ended_record_of line under_way txn = record { under_way = under_way; opened = o; is_open = is_open; txn = txn }

  commit_dead : (mover_at config (Session i) h).line ≡ Some command.Commit → Ended_ command.Commit
  commit_dead line = elim (commit_came config i h reading number t run ok o is_open line) [
    | OfNone none memory ↦ let wrong : told.Ended x ≡ told_memory = sym is ∙ memory in cc
    | OfOne s one of next ↦
        let txn = (commit_gone o.meta x s.reply (next ∙ ap Done is)).1 in
        let absent = ended_one config i h reading number t run ok o is_open x txn line s one of next is in
        let found = absent.found in
        let at = end_at config h (Session i) command.Commit x found.served run found.here found.asked in
        (ended_record_of command.Commit line txn, dead_at config h (Session i) command.Commit x found.served at (none_dead config h (Session i) command.Commit x found.served at found.was))
    | Unsettled s one of unsettled memory ↦ let wrong : told.Ended x ≡ told_memory = sym is ∙ memory in cc
  ]

  abort_dead : (line : Command) → IsAbortLine line → (mover_at config (Session i) h).line ≡ Some line → Ended_ line
  abort_dead line kind under_way = elim (abort_came config i h reading number t run ok o is_open line kind under_way) [
    | OfNone none memory ↦ let wrong : told.Ended x ≡ told_memory = sym is ∙ memory in cc
    | OfOne s one of next ↦
        let ended = abort_ended o.meta x s.reply (next ∙ ap Done is) in
        let at = serves_abort config i h reading number t run ok o is_open x ended.1 line kind under_way s one of in
        let served = served_as config.lease_us (Status (home_of config x)) (own_then s) s.reading s.asked (request.Abort o.meta.txn) s.reply reply.Ended at.time s.append of ended.0 at.serves in (
          ended_record_of line under_way ended.1,
          dead_at config h (Session i) line x s at (elim (ended_record config.lease_us (home_of config x) (own_then s) s.reading o.meta.txn at.time s.append served) [
            | inl none ↦ none_dead config h (Session i) line x s at (subst (λ (y : ℕ). record_of y (own_then s) ≡ NoRecord) ended.1 none)
            | inr took ↦ took_dead config h (Session i) line x s run at (subst (λ (q : Request). IsAbort x (Serve (Session i) q s.reply None s.append)) (sym of) ended.1) took
          ]),
        )
    | Unsettled s one of unsettled memory ↦ let wrong : told.Ended x ≡ told_memory = sym is ∙ memory in cc
  ]

-- a line whose command may be told Ended
abbrev EndsLine : Command → Type 0
EndsLine line = (line ≡ command.Commit) ⊎ IsAbortLine line

ends_line : (own : Option ℕ) (line : Command) (x : ℕ) → IsAnswerTo own line (told.Ended x) → EndsLine line
ends_line own command.Commit x is = inl refl
ends_line own command.Abort x is = inr (inl refl)
ends_line own command.End x is = inr (inr refl)
ends_line own line x is = absurd is

ended_line : (own : Option ℕ) (line : Command) (t : Told) (x : ℕ) → t ≡ told.Ended x → IsRefusal t ⊎ IsAnswerTo own line t → EndsLine line
ended_line own line t x is fits = elim fits [
  | inl refusal ↦ absurd (subst IsRefusal is refusal)
  | inr answer ↦ ends_line own line x (subst (λ (u : Told). IsAnswerTo own line u) is answer)
]

ends_passes : (line : Command) → EndsLine line → NoPass line
ends_passes line kind = elim kind [ inl is ↦ subst NoPass (sym is) tt | inr aborts ↦ abort_passes line aborts ]

-- with nothing open it is refused
no_txn : (config : Config) (i : ℕ) (keeps : Keeps) (line : Command) → EndsLine line → keeps.opened ≡ None → program_of config (Session i) keeps line ≡ refused told_refusal.NoTxn
no_txn config i keeps line kind none = elim kind [
  | inl is ↦ ap (λ (l : Command). program_of config (Session i) keeps l) is ∙ ap (λ (p : Option Opened). commit_command keeps p) none
  | inr aborts ↦ elim aborts [
    | inl is ↦ ap (λ (l : Command). program_of config (Session i) keeps l) is ∙ ap (λ (p : Option Opened). abort_command p) none
    | inr is ↦ ap (λ (l : Command). program_of config (Session i) keeps l) is ∙ ap (λ (p : Option Opened). abort_command p) none
  ]
]

refused_came : (m : Actor) (h low : History) (own had : Option ℕ) (t : Told) → Came m h own low had (refused told_refusal.NoTxn) t → told.Refused told_refusal.NoTxn ≡ t
unfolding Came
refused_came m h low own had t came = came.0

was_open : (config : Config) (i : ℕ) (g low : History) (keeps : Keeps) (reading : Option ℕ) (line : Command) (t : Told) (x : ℕ) → EndsLine line → t ≡ told.Ended x → CameAbout config (Session i) g low keeps reading (Some line) t → keeps.opened ≡ None → ⊥
was_open config i g low keeps reading line t x kind is came none = elim came.1 [
  | inl way ↦
      let told_none = refused_came (Session i) g low reading None t (subst (λ (p : Program Told). Came (Session i) g reading low None p t) (no_txn config i keeps line kind none) way) in
      let wrong : told.Refused told_refusal.NoTxn ≡ told.Ended x = told_none ∙ is in cc
  | inr memory ↦ let wrong : told.Ended x ≡ told_memory = sym is ∙ memory in cc
]

some_or_none : (o : Option Opened) → (o ≡ None) ⊎ ((x : Opened) × (o ≡ Some x))
some_or_none None = inl refl
some_or_none (Some x) = inr (x, refl)

abbrev EndedAt : Config → ToldAt → ℕ → Type 0
EndedAt config t x = ((line : Command) × IsEnd config t line x) × IsDead_ config t.before x

session_ended : (config : Config) (i : ℕ) (h : History) (reading : Option ℕ) (t : Told) (x : ℕ) (line : Command) → Told_ config (record { who = Session i; reading = reading; told = t; before = h }) → (mover_at config (Session i) h).line ≡ Some line → EndsLine line → t ≡ told.Ended x →
    ((mover_at config (Session i) h).keeps.opened ≡ None → ⊥) → EndedAt config (record { who = Session i; reading = reading; told = t; before = h }) x
session_ended config i h reading t x line at under_way kind is opened = elim (some_or_none (mover_at config (Session i) h).keeps.opened) [
  | inl none ↦ absurd (opened none)
  | inr some ↦ elim kind [
    | inl commit ↦
        let here : (mover_at config (Session i) h).line ≡ Some command.Commit = under_way ∙ ap Some commit in
        let e = commit_dead config i h reading at.number t at.run at.ok some.0 some.1 x is here in ((command.Commit, e.0), e.1)
    | inr aborts ↦ let e = abort_dead config i h reading at.number t at.run at.ok some.0 some.1 x is line aborts under_way in ((line, e.0), e.1)
  ]
]

ended_at : (config : Config) (t : ToldAt) (x : ℕ) (line : Command) → (i : ℕ) × (t.who ≡ Session i) → Told_ config t → (mover_at config t.who t.before).line ≡ Some line → EndsLine line → t.told ≡ told.Ended x →
    (g : History) → CameAbout config t.who g (before_start t.who t.before) (mover_at config t.who t.before).keeps (mover_at config t.who t.before).reading (Some line) t.told → EndedAt config t x
ended_at config t x line who =
    subst (λ (a : Actor). Told_ config (record { who = a; reading = t.reading; told = t.told; before = t.before }) → (mover_at config a t.before).line ≡ Some line → EndsLine line → t.told ≡ told.Ended x →
    (g : History) → CameAbout config a g (before_start a t.before) (mover_at config a t.before).keeps (mover_at config a t.before).reading (Some line) t.told → EndedAt config (record { who = a; reading = t.reading; told = t.told; before = t.before }) x) (sym who.1)
    (λ at under_way kind is g came.
    session_ended config who.0 t.before t.reading t.told x line at under_way kind is
    (was_open config who.0 g (before_start (Session who.0) t.before) (mover_at config (Session who.0) t.before).keeps (mover_at config (Session who.0) t.before).reading line t.told x kind is came))

-- what is dead stays so
dead_later : (config : Config) (h b : History) (e : Entry) (x : ℕ) → StandsOver e b h → IsDead_ config b x → IsDead_ config h x
dead_later config h b e x stands is = record {
  dead = dead_stays (life x (home_log config x b)) (life x (home_log config x h)) (later_life config h b x (stands_in e b h stands)) is.dead;
  begin = is.begin;
  member = member_before is.begin e b h is.member stands;
  begins = is.begins;
}

all_ended : (config : Config) (h : History) (t : ToldAt) (x : ℕ) → Run config h → Member t (tells h) → t.told ≡ told.Ended x → ((line : Command) × IsEnd config t line x) × ((y : CommittedTxn) → Member y (committed h) → y.txn ≡ x → ⊥)
all_ended config h t x run here is =
    let place = place_of config h t here in
    let answer = each_answered config h t run here in
    let kind = ended_line (txn_of_line (session_of t.who) (mover_at config t.who t.before).keeps answer.line) answer.line t.told x is answer.fits in
    let e = entry_of t.who t.reading (Tell place.number t.told) in
    let s = mover_at config t.who t.before in
    let came : CameAbout config t.who (e ∷ t.before) (before_start t.who t.before) s.keeps s.reading (Some answer.line) t.told =
    subst (λ (o : Option Command). CameAbout config t.who (e ∷ t.before) (before_start t.who t.before) s.keeps s.reading o t.told) answer.under_way (told_came_about config h t.before e run place.stands) in
    let ended = ended_at config t x answer.line (told_session config h t answer.line run place answer.under_way (ends_passes answer.line kind)) (told_here config h t run place) answer.under_way kind is (e ∷ t.before) came in
    (ended.0, λ y m same. never_commits config h x y run (dead_later config h t.before e x place.stands ended.1) m same)

pub ended_never_commits : EndedNeverCommits
ended_never_commits config h t run here = (λ x is. (all_ended config h t x run here is).0, λ x is y m same. (all_ended config h t x run here is).1 y m same)
