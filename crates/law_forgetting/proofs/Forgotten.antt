-- A committed transaction that was told Absent was forgotten, and all its tablets had applied it.
use Rattle.std.proofs.Common.{◌≡◌, ℕ, true, false, List, Option, nat_eq, refl, sym, ◌∙◌, ap, subst, inl, inr}
use Rattle.std.proofs.lemmas.Bool.{or_cases}
use Rattle.txn_data.specs.declared.actor.Actor.{Actor}
use Rattle.txn_data.specs.declared.actor.Actor.TheVariants.{Status}
use Rattle.txn_data.specs.declared.append.Append.{Append}
use Rattle.txn_data.specs.declared.append.Append.TheVariants.{Nothing, Took, Failed}
use Rattle.txn_data.specs.declared.config.Config.{Config}
use Rattle.txn_data.specs.declared.fate.Fate.TheVariants as fate
use Rattle.txn_data.specs.declared.request.Request.TheVariants as request
use Rattle.txn_data.specs.declared.reply.Reply.TheVariants as reply
use Rattle.txn_data.specs.declared.event.Event.{Event}
use Rattle.txn_data.specs.declared.event.Event.TheVariants.{Serve}
use Rattle.txn_data.specs.declared.entry.Entry.{Entry}
use Rattle.txn_types.specs.Lists.{Member, has_number}
use Rattle.txn_types.specs.History.{History, own, was_logged}
use Rattle.txn_types.specs.Status.{Record, NoRecord, Pending, Committed, AbortedBy, record_of, record_over, fate_told, noted}
use Rattle.txn_types.specs.Run.{Run}
use Rattle.law_machines.specs.Own.{StandsOver, ServesNext, landed}
use Rattle.law_machines.proofs.Basics.{eq_true, filter_member, member_filter}
use Rattle.law_machines.proofs.Counted.{own_all, counts_served, counting_own, counted, WasServed}
use Rattle.law_machines.proofs.Owns.{serves_own, serves_at, stands_member, member_stands, own_member, member_own, run_until}
use Rattle.law_machines.proofs.Landed.{logged, standing_landed}
use Rattle.law_machines.proofs.Lands.{logged_member}
use Rattle.law_clocks.proofs.Runs.{member_before}
use Rattle.law_owners.specs.Owner.{home_of, IsHomedAt}
use Rattle.law_owners.proofs.Runs.{requests_homed}
use Rattle.law_fates.proofs.Life.{Life, Fresh, Open, Finished, Dead, life, RecordIs, IsNotBefore}
use Rattle.law_fates.proofs.Told.{Before, ByCommit, ByResolve, told_at}
use Rattle.law_fates.proofs.Runs.{home_log, home_lands, record_before, grown, committed_finished, tells_home}
use Rattle.law_open_txns.specs.Transaction.{Begun, IsBeginOf}
use Rattle.law_carried_fates.specs.Laws.{NotesOf}
use Rattle.law_carried_fates.proofs.Runs.{notes_applied}
use Rattle.law_forgetting.specs.Laws.{WasApplied, CommitsWith, IsForgotten, ToldAbsentIsForgotten}
use Rattle.law_forgetting.proofs.Notes.{noted_member, Forgets, forgets, begun_taken}
use Rattle.law_forgetting.proofs.Records.{forgot_entry, record_commit, begin_not_fresh}

-- ## the Begin stands in the log of the home

begin_home : (config : Config) (a : Actor) (x : ℕ) (event : Event) → IsHomedAt config a event → IsBeginOf x event → a ≡ Status (home_of config x)
begin_home config a x (Serve from (request.Begin y isolation priority) reply.Begun time append) homed is = homed.0.1 ∙ ap (λ (z : ℕ). Status (home_of config z)) is
begin_home config a x event homed is = absurd is

begin_served : (lease j : ℕ) (o : History) (reading : Option ℕ) (x : ℕ) (event : Event) → ServesNext lease (Status j) o reading event → IsBeginOf x event → WasServed event × (was_logged event ≡ true)
begin_served lease j o reading x (Serve from (request.Begin y isolation priority) reply.Begun time append) served is =
    let took = begun_taken lease j o reading y isolation priority time append served in
    subst (λ (b : Append). WasServed (Serve from (request.Begin y isolation priority) reply.Begun time b) × (was_logged (Serve from (request.Begin y isolation priority) reply.Begun time b) ≡ true)) (sym took) (tt, refl)
begin_served lease j o reading x event served is = absurd is

in_home_log : (config : Config) (x : ℕ) (b : History) (e : Entry) → Run config b → e.actor ≡ Status (home_of config x) → Member e b → WasServed e.event → was_logged e.event ≡ true → Member e (home_log config x b)
in_home_log config x b e run at m served logs =
    let a = Status (home_of config x) in
    let o = own a b in
    let counts : Member e (counted false o) = counts_served e false o (member_own e a b at m) served in
    subst (λ (l : History). Member e l) (standing_landed config.lease_us a o (serves_own config a b run.1) (own_all a b))
    (subst (λ (l : History). Member e (logged l)) (sym (counting_own a o (own_all a b))) (member_filter (λ (f : Entry). was_logged f.event) e (counted false o) counts logs))

begun_not_fresh : (config : Config) (x : ℕ) (b : History) → Run config b → Begun b x → life x (home_log config x b) ≡ Fresh → ⊥
begun_not_fresh config x b run begun fresh =
    let e = begun.0 in
    let home = begin_home config e.actor x e.event (requests_homed config b e run begun.1) begun.2 in
    let place = member_stands e b begun.1 in
    let served : ServesNext config.lease_us (Status (home_of config x)) (own e.actor place.0) e.reading e.event =
    subst (λ (c : Actor). ServesNext config.lease_us c (own e.actor place.0) e.reading e.event) home (serves_at config e place.0 b run.1 place.1) in
    let was = begin_served config.lease_us (home_of config x) (own e.actor place.0) e.reading x e.event served begun.2 in
    begin_not_fresh x (home_log config x b) e (in_home_log config x b e run home begun.1 was.0 was.1) begun.2 fresh

-- ## what was told

absent_record : (r : Record) → fate.Absent ≡ fate_told r → r ≡ NoRecord
absent_record NoRecord is = refl
absent_record (Pending own) is = cc
absent_record (Committed c ts) is = cc
absent_record (AbortedBy by) is = cc

-- no record, and a commit in the end: it had committed, and was gone
gone_life : (v w : Life) (c : ℕ) → (v ≡ Fresh → ⊥) → RecordIs NoRecord v → IsNotBefore v w → w ≡ Finished c → v ≡ Finished c
gone_life Fresh w c never is step end = absurd (never refl)
gone_life Open w c never is step end = absurd is
gone_life (Finished d) w c never is step end = sym step ∙ end
gone_life Dead w c never is step end = let dead : w ≡ Dead = step in cc

note_home : (config : Config) (a : Actor) (x k : ℕ) (event : Event) → IsHomedAt config a event → NotesOf x k event → a ≡ Status (home_of config x)
note_home config a x k (Serve from (request.Applied y tablet) r time append) homed is = homed.0 ∙ ap (λ (w : ℕ). Status (home_of config w)) is.0
note_home config a x k event homed is = absurd is

forgets_event : (lease j : ℕ) (o : History) (reading : Option ℕ) (x k : ℕ) (event : Event) → ServesNext lease (Status j) o reading event → was_logged event ≡ true → NotesOf x k event → Forgets o x k
forgets_event lease j o reading x k (Serve from (request.Applied y tablet) r time Nothing) served logs is = cc
forgets_event lease j o reading x k (Serve from (request.Applied y tablet) r time Took) served logs is =
    subst (λ (t : ℕ). Forgets o x t) is.1 (subst (λ (z : ℕ). Forgets o z tablet) is.0 (forgets lease j o reading y tablet r time Took served tt))
forgets_event lease j o reading x k (Serve from (request.Applied y tablet) r time Failed) served logs is =
    subst (λ (t : ℕ). Forgets o x t) is.1 (subst (λ (z : ℕ). Forgets o z tablet) is.0 (forgets lease j o reading y tablet r time Failed served tt))
forgets_event lease j o reading x k event served logs is = absurd is

committed_life : (v : Life) (c : ℕ) (ts : List ℕ) → RecordIs (Committed c ts) v → v ≡ Finished c
committed_life v c ts is = is

pub same_time : (v w : Life) (c d : ℕ) → v ≡ Finished d → IsNotBefore v w → w ≡ Finished c → d ≡ c
same_time v w c d is step end = let later : w ≡ Finished d = subst (λ (z : Life). IsNotBefore z w) is step in cc

commits_time : (x c d : ℕ) (ts : List ℕ) (event : Event) → d ≡ c → CommitsWith x d ts event → CommitsWith x c ts event
commits_time x c d ts event same is = subst (λ (e : ℕ). CommitsWith x e ts event) same is

-- what the entry that forgot it knew
pub from_forget : (config : Config) (h b : History) (f : Entry) (x k c : ℕ) → Run config h → StandsOver f b h → was_logged f.event ≡ true → NotesOf x k f.event → life x (home_log config x h) ≡ Finished c → IsForgotten h x c
from_forget config h b f x k c run stands logs notes end =
    let a = Status (home_of config x) in
    let until = run_until config h b f run stands in
    let mf : Member f h = stands_member f b h stands in
    let home = note_home config f.actor x k f.event (requests_homed config h f run mf) notes in
    let served : ServesNext config.lease_us a (own a b) f.reading f.event = subst (λ (d : Actor). ServesNext config.lease_us d (own d b) f.reading f.event) home (serves_at config f b h run.1 stands) in
    let g = forgets_event config.lease_us (home_of config x) (own a b) f.reading x k f.event served logs notes in
    let over : record_over x (home_log config x b) ≡ Committed g.at g.tablets =
    subst (λ (l : History). record_over x l ≡ Committed g.at g.tablets) (standing_landed config.lease_us a (own a b) (serves_own config a b until.1) (own_all a b)) g.is in
    let made = record_commit x g.at g.tablets (home_log config x b) over in
    let in_b : Member made.0 b = own_member made.0 a b (logged_member (own a b) made.0 made.1) in
    let was : life x (home_log config x b) ≡ Finished g.at = subst (λ (r : Record). RecordIs r (life x (home_log config x b))) g.is (record_before config x b until) in
    let same = same_time (life x (home_log config x b)) (life x (home_log config x h)) c g.at was (grown config x h b f home stands) end in
    record {
      entry = made.0;
      tablets = g.tablets;
      member = member_before made.0 f b h in_b stands;
      commits = commits_time x c g.at g.tablets made.0.event same made.2;
      logs = (filter_member (λ (e : Entry). was_logged e.event) made.0 (landed (own a b)) made.1).1;
      applied = λ t m. elim (or_cases (nat_eq t k) (has_number t (noted x (own a b))) (g.all t m)) [
        | inl is ↦
            let s = notes_applied config h b f x k run stands notes in
            subst (λ (u : ℕ). WasApplied h x u) (sym (eq_true t k is)) (s.0, member_before s.0 f b h s.1 stands, s.2, s.3)
        | inr old ↦
            let n = noted_member x t (own a b) old in
            let there = member_stands n.0 b (own_member n.0 a b n.1) in
            let s = notes_applied config b there.0 n.0 x t until there.1 n.2 in
            (s.0, member_before s.0 f b h (member_before s.0 n.0 there.0 b s.1 there.1) stands, s.2, s.3)
      ];
    }

pub told_absent : ToldAbsentIsForgotten
told_absent config h b j x c run stands begun tells at =
    let a = Status (home_of config x) in
    let until = run_until config h b j run stands in
    let home = tells_home config j.actor x j.event fate.Absent (requests_homed config h j run (stands_member j b h stands)) tells in
    let served : ServesNext config.lease_us a (own a b) j.reading j.event = subst (λ (d : Actor). ServesNext config.lease_us d (own d b) j.reading j.event) home (serves_at config j b h run.1 stands) in
    let gone : record_of x (own a b) ≡ NoRecord = elim (told_at config.lease_us (home_of config x) (own a b) j.reading x j.event fate.Absent served tells) [
      | Before told ↦ absent_record (record_of x (own a b)) told
      | ByCommit d is commits taken ↦ cc
      | ByResolve is resolves taken ↦ cc
    ] in
    let record_now : RecordIs NoRecord (life x (home_log config x b)) = subst (λ (r : Record). RecordIs r (life x (home_log config x b))) gone (record_before config x b until) in
    let end = committed_finished config h x c run at in
    let was : life x (home_log config x b) ≡ Finished c =
    gone_life (life x (home_log config x b)) (life x (home_log config x h)) c (begun_not_fresh config x b until begun) record_now (grown config x h b j home stands) end in
    let over : record_over x (home_log config x b) ≡ NoRecord =
    subst (λ (l : History). record_over x l ≡ NoRecord) (standing_landed config.lease_us a (own a b) (serves_own config a b until.1) (own_all a b)) gone in
    let f = forgot_entry x c (home_log config x b) (home_lands config x b until) over was in
    let logs = (filter_member (λ (e : Entry). was_logged e.event) f.0 (landed (own a b)) f.1).1 in
    let in_b : Member f.0 b = own_member f.0 a b (logged_member (own a b) f.0 f.1) in
    let place = member_stands f.0 b in_b in
    from_forget config b place.0 f.0 x f.2.0 c until place.1 logs f.2.1 was
