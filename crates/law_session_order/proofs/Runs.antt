-- The laws of a session's own order in every run.
use Rattle.std.proofs.Common.{◌≡◌, true, ℕ, ◌<◌, List, Option, Some, refl, sym, ◌∙◌, ap, subst, arith, None}
use Rattle.txn_data.specs.declared.actor.Actor.{Actor}
use Rattle.txn_data.specs.declared.append.Append.{Append}
use Rattle.txn_data.specs.declared.append.Append.TheVariants.{Nothing, Took, Failed}
use Rattle.txn_data.specs.declared.config.Config.{Config}
use Rattle.txn_data.specs.declared.request.Request.TheVariants as request
use Rattle.txn_data.specs.declared.reply.Reply.{Reply}
use Rattle.txn_data.specs.declared.event.Event.{Event}
use Rattle.txn_data.specs.declared.event.Event.TheVariants.{Serve}
use Rattle.txn_data.specs.declared.entry.Entry.{Entry}
use Rattle.txn_data.specs.declared.actor.Actor.TheVariants.{Session}
use Rattle.txn_types.specs.Lists.{Member}
use Rattle.txn_types.specs.History.{History}
use Rattle.txn_types.specs.Run.{Run, mover_at, flight}
use Rattle.law_messages.proofs.Rules.{GoodServe, Now, stage_of}
use Rattle.law_messages.proofs.Runs.{good_of, kept_by}
use Rattle.txn_types.specs.History.{was_logged}
use Rattle.txn_types.specs.Reads.{before_start}
use Rattle.law_machines.specs.Own.{time_of}
use Rattle.law_machines.proofs.Owns.{Before, After, One, in_order}
use Rattle.law_clocks.specs.Laws.{IsPast, floor_at}
use Rattle.law_clocks.proofs.Runs.{times_keep_floors}
use Rattle.law_messages.proofs.Safe.{Rests, rests_idle}
use Rattle.law_fates.specs.Laws.{CommittedAt}
use Rattle.law_fates.proofs.Life.{Commits}
use Rattle.law_fates.proofs.Runs.{commit_entry}
use Rattle.law_session_order.specs.Laws.{WritesAreBegun, NoWriteAfterEnd, CommitsCover, CommitsAboveWrites}
use Rattle.law_open_txns.proofs.Open.{AllCovered, NoEnd, rules, IdleOk}
use Rattle.law_open_txns.specs.Transaction.{Begun, IsLogged, IsEndOf, IsWriteOf, IsCoveredBy}
use Rattle.law_session_order.proofs.Commands.{keeping}

write_free : (config : Config) (before : History) (a : Actor) (event : Event) (x : ℕ) → GoodServe (rules config) before a event → IsWriteOf x event → NoEnd x before × Begun before x
write_free config before a (Serve from (request.Write meta number path op read seen fates) r time append) x good is = subst (λ (y : ℕ). NoEnd y before × Begun before y) is good
write_free config before a event x good is = absurd is

pub no_write_after : NoWriteAfterEnd
no_write_after config h before e k x run stands write member end =
    (write_free config before e.actor e.event x (good_of (rules config) config (keeping config run.0) h before e run.1 stands) write).0 k member end

pub writes_begun : WritesAreBegun
writes_begun config h before e x run stands write =
    (write_free config before e.actor e.event x (good_of (rules config) config (keeping config run.0) h before e run.1 stands) write).1

pub commits_cover : CommitsCover
commits_cover config h before e k m x floor tablets r time append run stands is member =
    let good = good_of (rules config) config (keeping config run.0) h before k run.1 stands in
    let here : AllCovered x floor tablets before = subst (λ (ev : Event). GoodServe (rules config) before k.actor ev) is good in
    here e member

-- what a session knows where it has no command under way
pub idle_ok : (config : Config) (h : History) (i : ℕ) → Run config h → (mover_at config (Session i) h).line ≡ None → IdleOk config h (Session i) (mover_at config (Session i) h).keeps
idle_ok config h i run none =
    let m = Session i in
    let s = mover_at config m h in
    let rests : Rests (rules config) config m h s.keeps = rests_idle (rules config) config m (before_start m h) (stage_of s) h s.rest s.line (flight m h) ((kept_by (rules config) config (keeping config run.0) h run.1).movers m) none in
    rests h Now

-- ## commits are above their writes

pub record CommitForm (x c : ℕ) (event : Event) : Type 0 where
  pub from : Actor
  pub floor : ℕ
  pub tablets : List ℕ
  pub reply : Reply
  pub append : Append
  pub is : event ≡ Serve from (request.Commit x floor tablets) reply (Some c) append

pub commit_form : (x c : ℕ) (event : Event) → Commits x c event → CommitForm x c event
commit_form x c (Serve from (request.Commit y floor tablets) r (Some d) append) is = record {
  from = from;
  floor = floor;
  tablets = tablets;
  reply = r;
  append = append;
  is = ap (λ (z : ℕ). Serve from (request.Commit z floor tablets) r (Some d) append) is.0 ∙ ap (λ (b : ℕ). Serve from (request.Commit x floor tablets) r (Some b) append) is.1;
}
commit_form x c event is = absurd is

logs_is : (append : Append) (from : Actor) (x floor : ℕ) (tablets : List ℕ) (r : Reply) (time : Option ℕ) → was_logged (Serve from (request.Commit x floor tablets) r time append) ≡ true → IsLogged append
logs_is Nothing from x floor tablets r time is = cc
logs_is Took from x floor tablets r time is = tt
logs_is Failed from x floor tablets r time is = tt

-- a commit that took a time, over its floor, and as an end of its transaction
pub record CommitOf (config : Config) (h : History) (x c : ℕ) : Type 0 where
  pub entry : Entry
  pub member : Member entry h
  pub form : CommitForm x c entry.event
  pub above : form.floor < c
  pub end : IsEndOf x entry.event

pub commit_of : (config : Config) (h : History) (x c : ℕ) → Run config h → CommittedAt h x c → CommitOf config h x c
commit_of config h x c run at =
    let k = commit_entry config h x c run at in
    let f = commit_form x c k.entry.event k.commits in
    let past = times_keep_floors config h k.entry c run k.member (ap time_of f.is) in
    let high : IsPast (Serve f.from (request.Commit x f.floor f.tablets) f.reply (Some c) f.append) (floor_at (Serve f.from (request.Commit x f.floor f.tablets) f.reply (Some c) f.append)) c =
    subst (λ (ev : Event). IsPast ev (floor_at ev) c) f.is past in
    record {
      entry = k.entry;
      member = k.member;
      form = f;
      above = high.1 refl;
      end = subst (λ (ev : Event). IsEndOf x ev) (sym f.is)
          (refl, logs_is f.append f.from x f.floor f.tablets f.reply (Some c) (subst (λ (ev : Event). was_logged ev ≡ true) f.is k.was_logged));
    }

pub commits_above : CommitsAboveWrites
commits_above config h e c number read seen m meta path op fates r time append run member is at =
    let k = commit_of config h meta.txn c run at in
    let above = k.above in
    elim (in_order e k.entry h member k.member) [
      | After before stands earlier ↦
          absurd (no_write_after config h before e k.entry meta.txn run stands (subst (λ (ev : Event). IsWriteOf meta.txn ev) (sym is) refl) earlier k.end)
      | Before before stands earlier ↦
          let c = commits_cover config h before e k.entry k.form.from meta.txn k.form.floor k.form.tablets k.form.reply (Some c) k.form.append run stands k.form.is earlier in
          let covered : IsCoveredBy meta.txn k.form.floor k.form.tablets e.actor (Serve m (request.Write meta number path op read seen fates) r time append) =
          subst (λ (ev : Event). IsCoveredBy meta.txn k.form.floor k.form.tablets e.actor ev) is c in
          let w = covered refl in
          let low = w.1 in
          (w.0, omega (arith, low, above), λ v time_is. let u = w.2 v time_is in let under = u.0 in omega (arith, under, above))
      | One same ↦ let event : e.event ≡ k.entry.event = ap (λ (g : Entry). g.event) same in
          let both : Serve m (request.Write meta number path op read seen fates) r time append ≡ Serve k.form.from (request.Commit meta.txn k.form.floor k.form.tablets) k.form.reply (Some c) k.form.append =
          sym is ∙ (event ∙ k.form.is) in cc
    ]
