-- A transaction that a refusal closed never commits.
use Rattle.std.proofs.Common.{◌≡◌, ℕ, Bool, true, false, List, [], ◌∷◌, Option, Some, reverse, refl, sym, ◌∙◌, ap, subst, inl, inr}
use Rattle.std.proofs.lemmas.List.{reverse-append}
use Rattle.txn_data.specs.declared.actor.Actor.{Actor}
use Rattle.txn_data.specs.declared.actor.Actor.TheVariants.{Status, Session}
use Rattle.txn_data.specs.declared.append.Append.{Append}
use Rattle.txn_data.specs.declared.command.Command.{Command}
use Rattle.txn_data.specs.declared.command.Command.TheVariants as command
use Rattle.txn_data.specs.declared.config.Config.{Config}
use Rattle.txn_data.specs.declared.fate.Fate.TheVariants as fate
use Rattle.txn_data.specs.declared.meta.Meta.{Meta}
use Rattle.txn_data.specs.declared.request.Request.{Request}
use Rattle.txn_data.specs.declared.request.Request.TheVariants as request
use Rattle.txn_data.specs.declared.reply.Reply.{Reply}
use Rattle.txn_data.specs.declared.reply.Reply.TheVariants as reply
use Rattle.txn_data.specs.declared.refusal.Refusal.{Refusal}
use Rattle.txn_data.specs.declared.refusal.Refusal.TheVariants as refusal
use Rattle.txn_data.specs.declared.told.Told.{Told}
use Rattle.txn_data.specs.declared.told.Told.TheVariants as told
use Rattle.txn_data.specs.declared.told_refusal.ToldRefusal.{ToldRefusal}
use Rattle.txn_data.specs.declared.told_refusal.ToldRefusal.TheVariants as why
use Rattle.txn_data.specs.declared.txn_step.TxnStep.TheVariants as step
use Rattle.txn_data.specs.declared.event.Event.{Event}
use Rattle.txn_data.specs.declared.event.Event.TheVariants.{Serve, Tell}
use Rattle.txn_data.specs.declared.entry.Entry.{Entry}
use Rattle.txn_types.specs.Lists.{Member}
use Rattle.txn_types.specs.History.{History, is_start}
use Rattle.txn_types.specs.Program.{Program, Done, refusal_told}
use Rattle.txn_types.specs.TxnProgram.{txn_program}
use Rattle.txn_types.specs.Session.{Opened, commit_command, tablets_used}
use Rattle.txn_types.specs.Reads.{before_start, open_txn}
use Rattle.txn_types.specs.Run.{Run, Steps, Allowed, mover_at, program_of}
use Rattle.txn_types.specs.Cause.{ToldAt, tells, ServedAt, served_since, works_inside}
use Rattle.txn_promises.specs.Lines.{is_write}
use Rattle.txn_promises.specs.Leaves.{ends_txn, NeverCommits}
use Rattle.law_machines.specs.Own.{StandsOver}
use Rattle.law_machines.proofs.Basics.{member_cases}
use Rattle.law_machines.proofs.Owns.{steps_at, stands_member, stands_trans, member_stands}
use Rattle.law_owners.proofs.Runs.{requests_homed}
use Rattle.law_fates.specs.Laws.{Tells}
use Rattle.law_fates.proofs.Runs.{told_aborted}
use Rattle.law_open_txns.proofs.Open.{OpenOk}
use Rattle.law_session_order.proofs.Runs.{commit_of}
use Rattle.law_messages.proofs.Rules.{entry}
use Rattle.law_served.specs.Ran.{Ran}
use Rattle.law_served.specs.Laws.{RanAs}
use Rattle.law_served.proofs.Above.{entered}
use Rattle.law_served.proofs.Tellings.{Telling, told_at}
use Rattle.law_served.proofs.Runs.{told_ran}
use Rattle.law_at_once.proofs.Runs.{open_then, doubt_program, at_once}
use Rattle.law_leaves.proofs.Ids.{Gone, gone_from}
use Rattle.law_leaves.proofs.Asks.{commit_kind, under_way, one_or_other}

-- ## a put or a del that closed its transaction

steps_parts : (config : Config) (e : Entry) (h : History) → Steps config (e ∷ h) → Steps config h × Allowed config h e.actor e.reading e.event
unfolding Steps
steps_parts config e h steps = steps

-- the commit of it would have been asked by its own session
module _ (config : Config) (h : History) (t : ToldAt) (i : ℕ) (line : Command) (x : Opened) (run : Run config h) (at : Telling h t) (who : t.who ≡ Session i) (is : (mover_at config (Session i) t.before).line ≡ Some line) (there : (mover_at config (Session i) t.before).keeps.opened ≡ Some x) (writes : is_write (Some line) ≡ true) (free : x.in_doubt ≡ false) (gone : Gone (Session i) x.meta.txn (mover_at config (Session i) (entry (Session i) t.reading (Tell at.number t.told) ∷ t.before)).keeps) where
  place : Run config t.before
  place = (told_at config h t run at).0

  known : OpenOk config (before_start (Session i) t.before) (Session i) (mover_at config (Session i) t.before).keeps.last (mover_at config (Session i) t.before).keeps.serial x
  known = open_then config i t.before line x place is there

  told_entry : StandsOver (entry (Session i) t.reading (Tell at.number t.told)) t.before h
  told_entry = subst (λ (a : Actor). StandsOver (entry a t.reading (Tell at.number t.told)) t.before h) who at.stands

  not_write : is_write (Some command.Commit) ≡ true → ⊥
  not_write wrong = cc

  -- the state of the session where the commit was served
  kind_at : (c : History) (a from : Actor) (reading : Option ℕ) (floor : ℕ) (tablets : List ℕ) (r : Reply) (time : Option ℕ) (append : Append) → StandsOver (entry a reading (Serve from (request.Commit x.meta.txn floor tablets) r time append)) c h →
      ((mover_at config (Session i) c).line ≡ Some command.Commit) × (open_txn (mover_at config (Session i) c).keeps.opened ≡ Some x.meta.txn)
  kind_at c a from reading floor tablets r time append stands =
      let k : Entry = entry a reading (Serve from (request.Commit x.meta.txn floor tablets) r time append) in
      let parts = steps_parts config k c (steps_at config k c h run.1 stands) in
      let homed = (requests_homed config h k run (stands_member k c h stands)).0 in
      let mine : from ≡ Session i = homed.0 ∙ sym known.homed.0 in
      subst (λ (m : Actor). ((mover_at config m c).line ≡ Some command.Commit) × (open_txn (mover_at config m c).keeps.opened ≡ Some x.meta.txn)) mine
      (commit_kind config c from a reading x.meta.txn floor tablets r time append (run.0, parts.0) parts.1)

  -- where it stands
  refuted : (c : History) (k : Entry) (from : Actor) (floor : ℕ) (tablets : List ℕ) (r : Reply) (time : Option ℕ) (append : Append) → StandsOver k c h → k.event ≡ Serve from (request.Commit x.meta.txn floor tablets) r time append →
      (Member k (before_start (Session i) t.before) → ⊥) → ⊥
  refuted c k from floor tablets r time append stands event early =
      let serve : StandsOver (entry k.actor k.reading (Serve from (request.Commit x.meta.txn floor tablets) r time append)) c h = subst (λ (ev : Event). StandsOver (entry k.actor k.reading ev) c h) event stands in
      let kind = kind_at c k.actor from k.reading floor tablets r time append serve in
      elim (one_or_other (entry (Session i) t.reading (Tell at.number t.told)) k t.before c h told_entry stands) [
        | inl after ↦ (gone_from config (Session i) x.meta.txn (entry (Session i) t.reading (Tell at.number t.told)) t.before c after gone).0 kind.1
        | inr other ↦ elim other [
          | inl before ↦ elim (under_way config (Session i) k c t.before line (subst (λ (ev : Event). is_start ev ≡ false) (sym event) refl) is before) [
            | inl old ↦ early old
            | inr now ↦ not_write (subst (λ (o : Option Command). is_write o ≡ true) (sym now ∙ kind.0) writes)
          ]
          | inr one ↦ let wrong : Tell at.number t.told ≡ Serve from (request.Commit x.meta.txn floor tablets) r time append = ap (λ (e : Entry). e.event) one.0 ∙ event in cc
        ]
      ]

  pub closed_write : NeverCommits h x.meta.txn
  closed_write commit m same =
      let k = commit_of config h x.meta.txn commit.at run (commit, m, same, refl) in
      let c = member_stands k.entry h k.member in
      refuted c.0 k.entry k.form.from k.form.floor k.form.tablets k.form.reply (Some commit.at) k.form.append c.1 k.form.is (λ old. known.free free k.entry old k.end)

-- ## a commit that was told Aborted

member_back : {A : Type 0} (y : A) (xs : List A) → Member y (reverse xs) → Member y xs
member_back y [] m = m
member_back y (z ∷ zs) m = elim (member_cases y (reverse zs) (z ∷ []) (subst (λ (l : List _). Member y l) (reverse-append (z ∷ []) zs) m)) [
  | inl more ↦ inr (member_back y zs more)
  | inr last ↦ elim last [ inl is ↦ inl is | inr none ↦ absurd none ]
]

not_aborted : (a : Actor) (r : Refusal) (by : ℕ) → refusal_told a r ≡ why.Aborted by → ⊥
not_aborted a (refusal.Conflict other) by is = cc
not_aborted a (refusal.Overlap at) by is = cc
not_aborted a (refusal.LeaseHeld until) by is = cc
not_aborted a (refusal.ClockFull at) by is = cc
not_aborted a (refusal.ClockRange n) by is = cc
not_aborted a refusal.LogFault by is = cc
not_aborted a (refusal.Down since) by is = cc
not_aborted a refusal.Memory by is = cc

done_is : (m : Actor) (lose : Bool) (ss : List ServedAt) (t u : Told) → Ran m lose ss (Done t) u → (u ≡ told.Refused why.Memory → ⊥) → t ≡ u
unfolding Ran
done_is m lose ss t u ran not = elim ran [ inl is ↦ is.1 | inr none ↦ absurd (not none.2) ]

-- which reply it heard
reply_aborted : (meta : Meta) (m : Actor) (lose : Bool) (ss : List ServedAt) (by : ℕ) (r : Reply) → Ran m lose ss (elim r [
  | reply.Committed at ↦ Done (told.Committed meta.txn at)
  | reply.AbortedBy who ↦ Done (told.Refused (why.Aborted who))
  | reply.Gone ↦ Done (told.Ended meta.txn)
  | reply.Refused w ↦ Done (told.Refused (refusal_told (Status meta.status) w))
  | _ ↦ Done (told.Refused why.Memory)
]) (told.Refused (why.Aborted by)) → r ≡ reply.AbortedBy by
reply_aborted meta m lose ss by (reply.Committed at) ran = let wrong = done_is m lose ss (told.Committed meta.txn at) (told.Refused (why.Aborted by)) ran (λ e. cc) in cc
reply_aborted meta m lose ss by (reply.AbortedBy who) ran = let same = done_is m lose ss (told.Refused (why.Aborted who)) (told.Refused (why.Aborted by)) ran (λ e. cc) in let e : who ≡ by = cc in ap reply.AbortedBy e
reply_aborted meta m lose ss by reply.Gone ran = let wrong = done_is m lose ss (told.Ended meta.txn) (told.Refused (why.Aborted by)) ran (λ e. cc) in cc
reply_aborted meta m lose ss by (reply.Refused w) ran =
    let same = done_is m lose ss (told.Refused (refusal_told (Status meta.status) w)) (told.Refused (why.Aborted by)) ran (λ e. cc) in
    absurd (not_aborted (Status meta.status) w by (told_is (refusal_told (Status meta.status) w) (why.Aborted by) same))
  where
    told_is : (one two : ToldRefusal) → told.Refused one ≡ told.Refused two → one ≡ two
    told_is one two is = cc
reply_aborted meta m lose ss by r ran = let wrong = done_is m lose ss (told.Refused why.Memory) (told.Refused (why.Aborted by)) ran (λ e. cc) in cc

-- the commit that was answered so
pub record AnsweredAborted (x by : ℕ) (ss : List ServedAt) : Type 0 where
  pub served : ServedAt
  pub here : Member served ss
  pub floor : ℕ
  pub tablets : List ℕ
  pub asked : served.asked ≡ request.Commit x floor tablets
  pub reply : served.reply ≡ reply.AbortedBy by

commit_ran : (meta : Meta) (floor : ℕ) (tablets : List ℕ) (m : Actor) (lose : Bool) (ss : List ServedAt) (by : ℕ) → Ran m lose ss (txn_program (step.Commit meta floor tablets)) (told.Refused (why.Aborted by)) → AnsweredAborted meta.txn by ss
unfolding Ran
commit_ran meta floor tablets m lose ss by ran = elim ran [
  | inl heard ↦ record {
    served = heard.0;
    here = subst (λ (l : List ServedAt). Member heard.0 l) (sym heard.2) (inl refl);
    floor = floor;
    tablets = tablets;
    asked = heard.4;
    reply = reply_aborted meta m _ heard.1 by heard.0.reply heard.5;
  }
  | inr other ↦ elim other [
    | inl restart ↦ let wrong = restart.0 in cc
    | inr more ↦ elim more [
      | inl unheard ↦ let wrong = reply_aborted meta m _ ss by (reply.Refused refusal.Memory) unheard in cc
      | inr none ↦ let wrong = none.2 in cc
    ]
  ]
]

-- what was answered aborted never commits
pub aborted_never : (config : Config) (h : History) (t : ToldAt) (x by : ℕ) → Run config h → (at : Telling h t) → AnsweredAborted x by (served_since t.who t.before) → NeverCommits h x
aborted_never config h t x by run at answered commit m same =
    let s = answered.served in
    let e = entered config t.who t.before s (told_at config h t run at).0.1 answered.here in
    let k : Entry = entry s.by s.reading (Serve t.who s.asked s.reply e.time s.append) in
    let stands : StandsOver k s.before h = stands_trans k (entry t.who t.reading (Tell at.number t.told)) s.before t.before h e.stands at.stands in
    let event : k.event ≡ Serve t.who (request.Commit x answered.floor answered.tablets) (reply.AbortedBy by) e.time s.append =
    ap (λ (q : Request). Serve t.who q s.reply e.time s.append) answered.asked ∙ ap (λ (r : Reply). Serve t.who (request.Commit x answered.floor answered.tablets) r e.time s.append) answered.reply in
    told_aborted config h k x commit.at run (stands_member k s.before h stands) (subst (λ (ev : Event). Tells x ev fate.Aborted) (sym event) (refl, refl)) (commit, m, same, refl)

pub aborted_served : (config : Config) (h : History) (t : ToldAt) (i : ℕ) (x : Opened) (by : ℕ) → Run config h → Member t (tells h) → t.who ≡ Session i → (mover_at config t.who t.before).line ≡ Some command.Commit → (mover_at config t.who t.before).keeps.opened ≡ Some x →
    t.told ≡ told.Refused (why.Aborted by) → AnsweredAborted x.meta.txn by (served_since t.who t.before)
aborted_served config h t i x by run here who is there told_it =
    let s = (mover_at config t.who t.before).keeps in
    let ran : RanAs config t.who (served_since t.who t.before) s (Some command.Commit) t.told = subst (λ (o : Option Command). RanAs config t.who (served_since t.who t.before) s o t.told) is (told_ran config h t run here) in
    let program : program_of config t.who s command.Commit ≡ txn_program (step.Commit x.meta s.last (tablets_used [] x.writes)) =
    subst (λ (a : Actor). program_of config a s command.Commit ≡ txn_program (step.Commit x.meta s.last (tablets_used [] x.writes))) (sym who) (ap (λ (o : Option Opened). commit_command s o) there) in
    let answered = commit_ran x.meta s.last (tablets_used [] x.writes) t.who true (reverse (served_since t.who t.before)) by
    (subst (λ (u : Told). Ran t.who true (reverse (served_since t.who t.before)) (txn_program (step.Commit x.meta s.last (tablets_used [] x.writes))) u) told_it
    (subst (λ (p : Program Told). Ran t.who true (reverse (served_since t.who t.before)) p t.told) program ran.1)) in
    record {
      served = answered.served;
      here = member_back answered.served (served_since t.who t.before) answered.here;
      floor = answered.floor;
      tablets = answered.tablets;
      asked = answered.asked;
      reply = answered.reply;
    }

-- ## a put or a del whose transaction was in doubt was not told so

pub was_free : (config : Config) (h : History) (t : ToldAt) (line : Command) (x : Opened) (w : ToldRefusal) → Run config h → Member t (tells h) → (mover_at config t.who t.before).line ≡ Some line → (mover_at config t.who t.before).keeps.opened ≡ Some x →
    is_write (Some line) ≡ true → ends_txn (Some line) w ≡ true → t.told ≡ told.Refused w → x.in_doubt ≡ false
was_free config h t line x w run here is there writes ends told_it = choice x.in_doubt refl
  where
    ran : RanAs config t.who (served_since t.who t.before) (mover_at config t.who t.before).keeps (Some line) t.told
    ran = subst (λ (o : Option Command). RanAs config t.who (served_since t.who t.before) (mover_at config t.who t.before).keeps o t.told) is (told_ran config h t run here)

    told_is : (one two : ToldRefusal) → told.Refused one ≡ told.Refused two → one ≡ two
    told_is one two same = cc

    no_doubt : ends_txn (Some line) why.InDoubt ≡ true → ⊥
    no_doubt wrong = cc

    no_memory : ends_txn (Some line) why.Memory ≡ true → ⊥
    no_memory wrong = cc

    choice : (b : Bool) → x.in_doubt ≡ b → x.in_doubt ≡ false
    choice false doubt = doubt
    choice true doubt =
        absurd (elim (at_once t.who true (reverse (served_since t.who t.before)) (program_of config t.who (mover_at config t.who t.before).keeps line) t.told why.InDoubt
        (doubt_program config t.who (mover_at config t.who t.before).keeps line x ran.0 (works line writes) there doubt) ran.1) [
          | inl said ↦ no_doubt (subst (λ (v : ToldRefusal). ends_txn (Some line) v ≡ true) (told_is w why.InDoubt (sym told_it ∙ said)) ends)
          | inr none ↦ no_memory (subst (λ (v : ToldRefusal). ends_txn (Some line) v ≡ true) (told_is w why.Memory (sym told_it ∙ none)) ends)
        ])
      where
        works : (l : Command) → is_write (Some l) ≡ true → works_inside (Some l) ≡ true
        works (command.Put place v) holds = refl
        works (command.Del place) holds = refl
        works l holds = cc
