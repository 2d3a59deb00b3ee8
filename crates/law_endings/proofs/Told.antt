-- When a commit is told Ended, and an abort Committed.
use Rattle.std.proofs.Common.{◌≡◌, ℕ, true, List, [], ◌∷◌, Option, Some, None, refl, sym, ◌∙◌, ap, subst, inl, inr}
use Rattle.txn_data.specs.declared.actor.Actor.{Actor}
use Rattle.txn_data.specs.declared.actor.Actor.TheVariants.{Tablet, Status, Session, Applier}
use Rattle.txn_data.specs.declared.append.Append.TheVariants.{Failed}
use Rattle.txn_data.specs.declared.command.Command.{Command}
use Rattle.txn_data.specs.declared.command.Command.TheVariants as command
use Rattle.txn_data.specs.declared.config.Config.{Config}
use Rattle.txn_data.specs.declared.request.Request.{Request}
use Rattle.txn_data.specs.declared.request.Request.TheVariants as request
use Rattle.txn_data.specs.declared.reply.Reply.TheVariants as reply
use Rattle.txn_data.specs.declared.told.Told.{Told}
use Rattle.txn_data.specs.declared.told.Told.TheVariants as told
use Rattle.txn_data.specs.declared.event.Event.{Event}
use Rattle.txn_data.specs.declared.event.Event.TheVariants.{Serve, Tell}
use Rattle.txn_types.specs.Lists.{Member}
use Rattle.txn_types.specs.History.{History, own}
use Rattle.txn_types.specs.Clock.{down_since}
use Rattle.txn_types.specs.Status as status
use Rattle.txn_types.specs.Status.{Record, NoRecord, record_of, record_over}
use Rattle.txn_types.specs.Program.{Done}
use Rattle.txn_types.specs.Reads.{before_start}
use Rattle.txn_types.specs.Session.{Opened, tablets_used}
use Rattle.txn_types.specs.Run.{Mover, MayStart, Allowed, Steps, Run, mover_at, is_settling}
use Rattle.txn_types.specs.Cause.{ToldAt, ServedAt, served_since, own_then}
use Rattle.law_machines.specs.Own.{landed}
use Rattle.law_machines.proofs.Counted.{own_all}
use Rattle.law_machines.proofs.Owns.{steps_at, run_until, serves_own}
use Rattle.law_machines.proofs.Landed.{logged, standing_landed}
use Rattle.law_courses.specs.Course.{entry_of}
use Rattle.law_courses.specs.Laws.{CameAbout}
use Rattle.law_courses.proofs.Courses.{told_came_about}
use Rattle.law_messages.proofs.Rules.{told_memory}
use Rattle.law_owners.specs.Owner.{home_of}
use Rattle.law_fates.proofs.Own.{lands_own}
use Rattle.txn_promises.specs.Lines.{is_abort_line}
use Rattle.txn_promises.specs.Ends.{AsksEnd, IsEnd, FoundRecord, FailsToAbort, KeptAbort, AbsentByAbort, CommitEnds, AbortCommits}
use Rattle.law_endings.specs.Laws.{CommitsToldEnded, KeptAbortsLeaveNone, AbortsToldCommitted}
use Rattle.law_endings.proofs.OneAsk.{OfNone, OfOne, Unsettled}
use Rattle.law_endings.proofs.Tables.{gone_record, none_gone, committed_record, record_told}
use Rattle.law_endings.proofs.Records.{IsAbort, abort_leaves}
use Rattle.law_endings.proofs.Lives.{kept_abort}
use Rattle.law_endings.proofs.Asked.{IsAbortLine, Place, place_of, commit_next, done_same, commit_gone, abort_next, abort_committed, EndAt, end_at, then_home, one_member, no_member, served_as, commit_came, abort_came}

-- ## a commit is told Ended

commit_asks : (o : Opened) (floor x : ℕ) (tablets : List ℕ) (asked : Request) → asked ≡ request.Commit o.meta.txn floor tablets → o.meta.txn ≡ x → AsksEnd command.Commit x asked
commit_asks o floor x tablets asked is txn = subst (λ (q : Request). AsksEnd command.Commit x q) (sym is) txn

absent_by : (config : Config) (h : History) (m : Actor) (reading : Option ℕ) (t : Told) (x : ℕ) (s : ServedAt) → Run config h → Member s (served_since m h) → AsksEnd command.Commit x s.asked → down_since (own_then s) ≡ None → record_of x (own_then s) ≡ NoRecord →
    AbsentByAbort (record { who = m; reading = reading; told = t; before = h }) command.Commit x
absent_by config h m reading t x s run here asks up none =
    let at = end_at config h m command.Commit x s run here asks in
    let is_home = then_home config x s at.home in
    record {
      found = record { served = s; here = here; asked = asks; up = up; was = none };
      kept = subst (λ (l : History). KeptAbort m x l) (sym is_home) (kept_abort config s.before m x at.run at.free at.mine (subst (λ (l : History). record_of x l ≡ NoRecord) is_home none));
    }

module _ (config : Config) (i : ℕ) (h : History) (reading : Option ℕ) (number : ℕ) (t : Told) (run : Run config h) (ok : Allowed config h (Session i) reading (Tell number t)) (o : Opened) (is_open : (mover_at config (Session i) h).keeps.opened ≡ Some o)
    (x : ℕ) (txn : o.meta.txn ≡ x) (line : (mover_at config (Session i) h).line ≡ Some command.Commit) where
  abbrev m : Actor
  m = Session i

  abbrev at : ToldAt
  at = record { who = Session i; reading = reading; told = t; before = h }

  abbrev asked : Request
  asked = request.Commit o.meta.txn (mover_at config (Session i) h).keeps.last (tablets_used [] o.writes)

  pub ended_one : (s : ServedAt) → served_since (Session i) h ≡ s ∷ [] → s.asked ≡ asked → commit_next o.meta s.reply ≡ Done t → t ≡ told.Ended x → AbsentByAbort at command.Commit x
  ended_one s one of next is =
      let here : Member s (served_since (Session i) h) = subst (λ (l : List ServedAt). Member s l) (sym one) (inl refl) in
      let asks = commit_asks o (mover_at config (Session i) h).keeps.last x (tablets_used [] o.writes) s.asked of txn in
      let e = end_at config h (Session i) command.Commit x s run here asks in
      let gone = commit_gone o.meta x s.reply (next ∙ ap Done is) in
      let found = gone_record config.lease_us (home_of config x) (own_then s) s.reading o.meta.txn (mover_at config (Session i) h).keeps.last (tablets_used [] o.writes) e.time s.append
      (served_as config.lease_us (Status (home_of config x)) (own_then s) s.reading s.asked asked s.reply reply.Gone e.time s.append of gone.0 e.serves) in
      absent_by config h (Session i) reading t x s run here asks found.0 (subst (λ (y : ℕ). record_of y (own_then s) ≡ NoRecord) txn found.1)

  commit_ended : t ≡ told.Ended x → AbsentByAbort at command.Commit x
  commit_ended is = elim (commit_came config i h reading number t run ok o is_open line) [
    | OfNone none memory ↦ let wrong : told.Ended x ≡ told_memory = sym is ∙ memory in cc
    | OfOne s one of next ↦ ended_one s one of next is
    | Unsettled s one of unsettled memory ↦ let wrong : told.Ended x ≡ told_memory = sym is ∙ memory in cc
  ]

  found_gone : (s : ServedAt) → served_since (Session i) h ≡ s ∷ [] → s.asked ≡ asked → FoundRecord at command.Commit x NoRecord → s.reply ≡ reply.Gone
  found_gone s one of found =
      let same = one_member s found.served (served_since (Session i) h) one found.here in
      let here : Member s (served_since (Session i) h) = subst (λ (l : List ServedAt). Member s l) (sym one) (inl refl) in
      let asks = commit_asks o (mover_at config (Session i) h).keeps.last x (tablets_used [] o.writes) s.asked of txn in
      let e = end_at config h (Session i) command.Commit x s run here asks in
      none_gone config.lease_us (home_of config x) (own_then s) s.reading o.meta.txn (mover_at config (Session i) h).keeps.last (tablets_used [] o.writes) s.reply e.time s.append
      (served_as config.lease_us (Status (home_of config x)) (own_then s) s.reading s.asked asked s.reply s.reply e.time s.append of refl e.serves)
      (subst (λ (u : ServedAt). down_since (own_then u) ≡ None) same found.up)
      (subst (λ (y : ℕ). record_of y (own_then s) ≡ NoRecord) (sym txn) (subst (λ (u : ServedAt). record_of x (own_then u) ≡ NoRecord) same found.was))

  commit_found : FoundRecord at command.Commit x NoRecord → t ≡ told.Ended x
  commit_found found = elim (commit_came config i h reading number t run ok o is_open line) [
    | OfNone none memory ↦ absurd (no_member found.served (served_since (Session i) h) none found.here)
    | OfOne s one of next ↦ sym (done_same (told.Ended o.meta.txn) t (sym (ap (commit_next o.meta) (found_gone s one of found)) ∙ next)) ∙ ap told.Ended txn
    | Unsettled s one of unsettled memory ↦ absurd (unsettled (ap is_settling (found_gone s one of found)))
  ]

-- ## an abort is told Committed

abort_asks : (line : Command) (o : Opened) (x : ℕ) (asked : Request) → IsAbortLine line → asked ≡ request.Abort o.meta.txn → o.meta.txn ≡ x → AsksEnd line x asked
abort_asks line o x asked kind is txn = elim kind [
  | inl abort ↦ subst (λ (l : Command). AsksEnd l x asked) (sym abort) (subst (λ (q : Request). AsksEnd command.Abort x q) (sym is) txn)
  | inr end ↦ subst (λ (l : Command). AsksEnd l x asked) (sym end) (subst (λ (q : Request). AsksEnd command.End x q) (sym is) txn)
]

module _ (config : Config) (i : ℕ) (h : History) (reading : Option ℕ) (number : ℕ) (t : Told) (run : Run config h) (ok : Allowed config h (Session i) reading (Tell number t)) (o : Opened) (is_open : (mover_at config (Session i) h).keeps.opened ≡ Some o)
    (x : ℕ) (txn : o.meta.txn ≡ x) (line : Command) (kind : IsAbortLine line) (under_way : (mover_at config (Session i) h).line ≡ Some line) where
  abbrev told_at : ToldAt
  told_at = record { who = Session i; reading = reading; told = t; before = h }

  abbrev asks_abort : Request
  asks_abort = request.Abort o.meta.txn

  pub serves_abort : (s : ServedAt) → (one : served_since (Session i) h ≡ s ∷ []) → (of : s.asked ≡ request.Abort o.meta.txn) → EndAt config h (Session i) line x s
  serves_abort s one of = end_at config h (Session i) line x s run (subst (λ (l : List ServedAt). Member s l) (sym one) (inl refl)) (abort_asks line o x s.asked kind of txn)

  committed_one : (c : ℕ) (s : ServedAt) → served_since (Session i) h ≡ s ∷ [] → s.asked ≡ request.Abort o.meta.txn → abort_next o.meta s.reply ≡ Done t → t ≡ told.Committed x c → (tablets : List ℕ) × FoundRecord told_at line x (status.Committed c tablets)
  committed_one c s one of next is =
      let here : Member s (served_since (Session i) h) = subst (λ (l : List ServedAt). Member s l) (sym one) (inl refl) in
      let e = serves_abort s one of in
      let was = abort_committed o.meta x c s.reply (next ∙ ap Done is) in
      let found = committed_record config.lease_us (home_of config x) (own_then s) s.reading o.meta.txn c e.time s.append
      (served_as config.lease_us (Status (home_of config x)) (own_then s) s.reading s.asked (request.Abort o.meta.txn) s.reply (reply.Committed c) e.time s.append of was.0 e.serves) in
      (found.1.0, record { served = s; here = here; asked = abort_asks line o x s.asked kind of txn; up = found.0; was = subst (λ (y : ℕ). record_of y (own_then s) ≡ status.Committed c found.1.0) txn found.1.1 })

  abort_told : (c : ℕ) → t ≡ told.Committed x c → (tablets : List ℕ) × FoundRecord told_at line x (status.Committed c tablets)
  abort_told c is = elim (abort_came config i h reading number t run ok o is_open line kind under_way) [
    | OfNone none memory ↦ let wrong : told.Committed x c ≡ told_memory = sym is ∙ memory in cc
    | OfOne s one of next ↦ committed_one c s one of next is
    | Unsettled s one of unsettled memory ↦ let wrong : told.Committed x c ≡ told_memory = sym is ∙ memory in cc
  ]

  found_committed : (c : ℕ) (tablets : List ℕ) (s : ServedAt) → served_since (Session i) h ≡ s ∷ [] → s.asked ≡ request.Abort o.meta.txn → FoundRecord told_at line x (status.Committed c tablets) → s.reply ≡ reply.Committed c
  found_committed c tablets s one of found =
      let same = one_member s found.served (served_since (Session i) h) one found.here in
      let e = serves_abort s one of in
      record_told config.lease_us (home_of config x) (own_then s) s.reading o.meta.txn c tablets s.reply e.time s.append
      (served_as config.lease_us (Status (home_of config x)) (own_then s) s.reading s.asked (request.Abort o.meta.txn) s.reply s.reply e.time s.append of refl e.serves)
      (subst (λ (u : ServedAt). down_since (own_then u) ≡ None) same found.up)
      (subst (λ (y : ℕ). record_of y (own_then s) ≡ status.Committed c tablets) (sym txn) (subst (λ (u : ServedAt). record_of x (own_then u) ≡ status.Committed c tablets) same found.was))

  abort_found : (c : ℕ) (tablets : List ℕ) → FoundRecord told_at line x (status.Committed c tablets) → t ≡ told.Committed x c
  abort_found c tablets found = elim (abort_came config i h reading number t run ok o is_open line kind under_way) [
    | OfNone none memory ↦ absurd (no_member found.served (served_since (Session i) h) none found.here)
    | OfOne s one of next ↦ sym (done_same (told.Committed o.meta.txn c) t (sym (ap (abort_next o.meta) (found_committed c tablets s one of found)) ∙ next)) ∙ ap (λ (y : ℕ). told.Committed y c) txn
    | Unsettled s one of unsettled memory ↦ absurd (unsettled (ap is_settling (found_committed c tablets s one of found)))
  ]

-- ## the two laws

-- a line of a session's alone
abbrev pub NoPass : Command → Type 0
NoPass (command.Apply k) = ⊥
NoPass line = Unit {0}

session_of : (config : Config) (m : Actor) (s : Mover) (line : Command) → MayStart config m s line → NoPass line → (i : ℕ) × (m ≡ Session i)
session_of config (Session i) s line may wrong = (i, refl)
session_of config (Applier k) s line may wrong = absurd (subst NoPass may.1 wrong)
session_of config (Tablet k) s line may wrong = absurd may
session_of config (Status j) s line may wrong = absurd may

pub abort_passes : (line : Command) → IsAbortLine line → NoPass line
abort_passes line kind = elim kind [ inl is ↦ subst NoPass (sym is) tt | inr is ↦ subst NoPass (sym is) tt ]

-- who was told of a command is a session
pub told_session : (config : Config) (h : History) (t : ToldAt) (line : Command) → Run config h → Place config h t → (mover_at config t.who t.before).line ≡ Some line → NoPass line → (i : ℕ) × (t.who ≡ Session i)
told_session config h t line run place is wrong =
    let e = entry_of t.who t.reading (Tell place.number t.told) in
    let s = mover_at config t.who t.before in
    let came : CameAbout config t.who (e ∷ t.before) (before_start t.who t.before) s.keeps s.reading (Some line) t.told =
    subst (λ (o : Option Command). CameAbout config t.who (e ∷ t.before) (before_start t.who t.before) s.keeps s.reading o t.told) is (told_came_about config h t.before e run place.stands) in
    session_of config t.who came.0.0 line came.0.2 wrong

-- what was told, and where
pub record Told_ (config : Config) (t : ToldAt) : Type 0 where
  pub number : ℕ
  pub run : Run config t.before
  pub ok : Allowed config t.before t.who t.reading (Tell number t.told)

pub told_here : (config : Config) (h : History) (t : ToldAt) → Run config h → Place config h t → Told_ config t
unfolding Steps
told_here config h t run place =
    let e = entry_of t.who t.reading (Tell place.number t.told) in
    let up_to : Steps config (e ∷ t.before) = steps_at config e t.before h run.1 place.stands in
    record { number = place.number; run = run_until config h t.before e run place.stands; ok = up_to.1 }

commit_says : (config : Config) (t : ToldAt) (x : ℕ) → (i : ℕ) × (t.who ≡ Session i) → Told_ config t → IsEnd config t command.Commit x → CommitEnds t x
commit_says config t x who =
    subst (λ (a : Actor). Told_ config (record { who = a; reading = t.reading; told = t.told; before = t.before }) → IsEnd config (record { who = a; reading = t.reading; told = t.told; before = t.before }) command.Commit x →
    CommitEnds (record { who = a; reading = t.reading; told = t.told; before = t.before }) x) (sym who.1)
    (λ at end. record {
      absent = commit_ended config who.0 t.before t.reading at.number t.told at.run at.ok end.opened end.is_open x end.txn end.under_way;
      ended = commit_found config who.0 t.before t.reading at.number t.told at.run at.ok end.opened end.is_open x end.txn end.under_way;
    })

pub commits_told_ended : CommitsToldEnded
commits_told_ended config h t x run here end =
    let place = place_of config h t here in
    commit_says config t x (told_session config h t command.Commit run place end.under_way tt) (told_here config h t run place) end

abort_line : (line : Command) → is_abort_line (Some line) ≡ true → IsAbortLine line
abort_line command.Abort is = inl refl
abort_line command.End is = inr refl
abort_line line is = cc

abort_says : (config : Config) (t : ToldAt) (line : Command) (x c : ℕ) → IsAbortLine line → (i : ℕ) × (t.who ≡ Session i) → Told_ config t → IsEnd config t line x → AbortCommits t line x c
abort_says config t line x c kind who =
    subst (λ (a : Actor). Told_ config (record { who = a; reading = t.reading; told = t.told; before = t.before }) → IsEnd config (record { who = a; reading = t.reading; told = t.told; before = t.before }) line x →
    AbortCommits (record { who = a; reading = t.reading; told = t.told; before = t.before }) line x c) (sym who.1)
    (λ at end. record {
      found = abort_told config who.0 t.before t.reading at.number t.told at.run at.ok end.opened end.is_open x end.txn line kind end.under_way c;
      committed = abort_found config who.0 t.before t.reading at.number t.told at.run at.ok end.opened end.is_open x end.txn line kind end.under_way c;
    })

pub aborts_told_committed : AbortsToldCommitted
aborts_told_committed config h t line x c run here end is =
    let place = place_of config h t here in
    let kind = abort_line line is in
    abort_says config t line x c kind (told_session config h t line run place end.under_way (abort_passes line kind)) (told_here config h t run place) end

-- ## a kept abort leaves no record

fails_aborts : (m : Actor) (x : ℕ) (event : Event) → FailsToAbort m x event → IsAbort x event
fails_aborts m x (Serve from (request.Abort y) r time Failed) is = is.1
fails_aborts m x event is = absurd is

pub kept_aborts_leave_none : KeptAbortsLeaveNone
kept_aborts_leave_none config h m j x run kept =
    let o = own (Status j) h in
    let same = standing_landed config.lease_us (Status j) o (serves_own config (Status j) h run.1) (own_all (Status j) h) in
    let left = abort_leaves x (logged (landed o)) kept.entry (lands_own config j h run) (subst (λ (l : History). Member kept.entry l) same kept.stands) (fails_aborts m x kept.entry.event kept.fails) in
    subst (λ (l : History). record_over x l ≡ NoRecord) (sym same) left.1
