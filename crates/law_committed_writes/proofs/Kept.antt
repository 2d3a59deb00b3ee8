-- The accepted writes of a committed transaction are kept at their tablets.
use Rattle.std.proofs.Common.{◌≡◌, ℕ, Bool, true, false, List, [], ◌∷◌, Option, Some, None, refl, sym, ◌∙◌, ap, subst, inl, inr, ◌⊎◌}
use Rattle.std.proofs.lemmas.Bool.{or_cases}
use Rattle.std.specs.List.{list_any}
use Rattle.doc_path.specs.Path.{Parts}
use Rattle.txn_data.specs.declared.actor.Actor.{Actor}
use Rattle.txn_data.specs.declared.actor.Actor.TheVariants.{Tablet, Status}
use Rattle.txn_data.specs.declared.append.Append.{Append}
use Rattle.txn_data.specs.declared.append.Append.TheVariants.{Nothing, Took, Failed}
use Rattle.txn_data.specs.declared.config.Config.{Config}
use Rattle.txn_data.specs.declared.fate_of.FateOf.{FateOf}
use Rattle.txn_data.specs.declared.meta.Meta.{Meta}
use Rattle.txn_data.specs.declared.op.Op.{Op}
use Rattle.txn_data.specs.declared.request.Request.TheVariants as request
use Rattle.txn_data.specs.declared.reply.Reply.{Reply}
use Rattle.txn_data.specs.declared.reply.Reply.TheVariants as reply
use Rattle.txn_data.specs.declared.event.Event.{Event}
use Rattle.txn_data.specs.declared.event.Event.TheVariants.{Serve}
use Rattle.txn_data.specs.declared.entry.Entry.{Entry}
use Rattle.txn_types.specs.Lists.{Member, or_zero}
use Rattle.txn_types.specs.History.{History, own, same_actor, was_logged, standing}
use Rattle.txn_types.specs.Clock.{Answer, logged as logs_answer, down_since}
use Rattle.txn_types.specs.Tablet.{Intent, is_of, has_any, provisional, provisional_over, provisional_after, versions, versions_over, tablet_up, tablet_standing}
use Rattle.txn_types.specs.Run.{Run, Serves}
use Rattle.law_machines.specs.Own.{landed, StandsOver, ServesNext}
use Rattle.law_machines.proofs.Basics.{same_cases, same_true, eq_true, member_cases, filter_member, member_filter}
use Rattle.law_machines.proofs.Counted.{counted, counting_own, counts_served, own_all, WasServed}
use Rattle.law_machines.proofs.Owns.{serves_own, serves_at, stands_member, stands_trans, member_stands, member_own, own_member, Before, After, One, in_order, run_until}
use Rattle.law_machines.proofs.Landed.{logged, standing_landed}
use Rattle.law_machines.proofs.Lands.{Grows, Same, grows_entry}
use Rattle.law_machines.proofs.Since.{since_all, own_stands}
use Rattle.law_clocks.proofs.Runs.{member_before}
use Rattle.law_owners.specs.Owner.{home_of}
use Rattle.law_owners.proofs.Founds.{standing_part}
use Rattle.law_fates.specs.Laws.{CommittedAt}
use Rattle.law_fates.proofs.Life.{life, life_grows}
use Rattle.law_fates.proofs.Runs.{home_log, committed_finished, told_aborted}
use Rattle.law_open_txns.proofs.Tables.{Written, written, took_of}
use Rattle.law_open_txns.specs.Transaction.{IsLogged, IsEndOf, IsWriteOf, IsCoveredBy, IsOn}
use Rattle.law_session_order.proofs.Runs.{no_write_after, commits_cover}
use Rattle.law_carried_fates.specs.Laws.{AppliesAt, CleansOf}
use Rattle.law_carried_fates.proofs.Runs.{applies_committed}
use Rattle.law_intents.proofs.Cleared.{applied_stays}
use Rattle.law_cleaning.proofs.Runs.{cleans_begun}
use Rattle.law_forgetting.specs.Laws.{CommitsWith, IsForgotten}
use Rattle.law_forgetting.proofs.Forgotten.{told_absent, same_time}
use Rattle.law_committed_writes.specs.Laws.{IsKept, CommittedIsKept}
use Rattle.law_committed_writes.proofs.Landing.{Makes, Keeps, AllKept, kept_lands}

-- ## what is applied is applied at the commit time

pub grows_prefix : (a : Actor) (e : Entry) (before h : History) → StandsOver e before h → Grows (logged (landed (own a before))) (logged (landed (own a h)))
grows_prefix a e before [] stands = absurd stands
grows_prefix a e before (f ∷ h) stands = elim stands [
  | inl here ↦ subst (λ (l : History). Grows (logged (landed (own a l))) (logged (landed (own a (f ∷ h))))) here.1 (own_grows (logged (landed (own a h))) Same)
  | inr deeper ↦ own_grows (logged (landed (own a before))) (grows_prefix a e before h deeper)
]
  where
    own_grows : (l : History) → Grows l (logged (landed (own a h))) → Grows l (logged (landed (own a (f ∷ h))))
    own_grows l grows = elim (same_cases f.actor a) [
      | inl s ↦ rw s.0 (grows_entry f (own a h) l grows)
      | inr s ↦ rw s.0 grows
    ]

pub apply_time : (config : Config) (h before : History) (e : Entry) (x at c : ℕ) → Run config h → StandsOver e before h → AppliesAt x at e.event → CommittedAt h x c → at ≡ c
apply_time config h before e x at c run stands applies committed =
    let until = run_until config h before e run stands in
    let was = committed_finished config before x at until (applies_committed config h before e x at run stands applies) in
    let end = committed_finished config h x c run committed in
    same_time (life x (home_log config x before)) (life x (home_log config x h)) c at was
    (life_grows x (home_log config x before) (home_log config x h) (grows_prefix (Status (home_of config x)) e before h stands)) end

-- ## and it is never cleaned

due_of : (fails due : Bool) (time : Option ℕ) (r : Reply) → IsLogged (logs_answer fails due time r).append → due ≡ true
due_of fails false time r is = absurd is
due_of fails true time r is = refl

up_of : (d : Option ℕ) (up : Answer) → IsLogged (tablet_standing d up).append → IsLogged up.append
up_of (Some n) up is = absurd is
up_of None up is = is

clean_any : (lease k : ℕ) (o : History) (reading : Option ℕ) (y : ℕ) (r : Reply) (time : Option ℕ) (append : Append) → Serves lease (Tablet k) o reading (request.Clean y) r time append → IsLogged append → has_any y (provisional o) ≡ true
clean_any lease k o reading y r time append served is =
    due_of served.fails (has_any y (provisional o)) None reply.Cleaned
    (up_of (down_since o) (tablet_up lease o served.fails (or_zero reading) (request.Clean y)) (subst (λ (a : Append). IsLogged a) served.logged is))

clean_event : (lease k x : ℕ) (o : History) (reading : Option ℕ) (event : Event) → ServesNext lease (Tablet k) o reading event → was_logged event ≡ true → CleansOf x event → has_any x (provisional o) ≡ true
clean_event lease k x o reading (Serve from (request.Clean y) r time Nothing) served logs is = cc
clean_event lease k x o reading (Serve from (request.Clean y) r time Took) served logs is = subst (λ (z : ℕ). has_any z (provisional o) ≡ true) is (clean_any lease k o reading y r time Took served tt)
clean_event lease k x o reading (Serve from (request.Clean y) r time Failed) served logs is = subst (λ (z : ℕ). has_any z (provisional o) ≡ true) is (clean_any lease k o reading y r time Failed served tt)
clean_event lease k x o reading event served logs is = absurd is

any_intent : (x : ℕ) (ps : List Intent) → has_any x ps ≡ true → (p : Intent) × Member p ps × (p.meta.txn ≡ x)
any_intent x [] is = cc
any_intent x (q ∷ ps) is = elim (or_cases (is_of x q) (list_any (is_of x) ps) is) [
  | inl here ↦ (q, inl refl, eq_true q.meta.txn x here)
  | inr more ↦ let r = any_intent x ps more in (r.0, inr r.1, r.2)
]

makes_event : (ps : List Intent) (event : Event) (p : Intent) → Member p (provisional_after ps event) → Member p ps ⊎ Makes p.meta.txn p event
makes_event ps (Serve from (request.Write meta number path op read seen fates) r (Some w) append) p m =
    elim (member_cases p ps ((record { meta = meta; number = number; path = path; op = op; wrote = w }) ∷ []) m) [
      | inl old ↦ inl old
      | inr new ↦ elim new [
        | inl is ↦ inr (sym (ap (λ (q : Intent). q.meta.txn) is), is)
        | inr none ↦ absurd none
      ]
    ]
makes_event ps (Serve from (request.Apply x at) r time append) p m = inl (filter_member _ p ps m).0
makes_event ps (Serve from (request.Clean x) r time append) p m = inl (filter_member _ p ps m).0
makes_event ps event p m = inl m

pub intent_made : (l : History) (p : Intent) → Member p (provisional_over l) → (e : Entry) × Member e l × Makes p.meta.txn p e.event
unfolding provisional_over
intent_made [] p m = absurd m
intent_made (e ∷ l) p m = elim (makes_event (provisional_over l) e.event p m) [
  | inl old ↦ let r = intent_made l p old in (r.0, inr r.1, r.2)
  | inr new ↦ (e, inl refl, new)
]

pub makes_write : (x : ℕ) (p : Intent) (event : Event) → Makes x p event → IsWriteOf x event
makes_write x p (Serve from (request.Write meta number path op read seen fates) r (Some w) append) is = is.0
makes_write x p event is = absurd is

makes_on : (x floor : ℕ) (tablets : List ℕ) (a : Actor) (p : Intent) (event : Event) → Makes x p event → IsCoveredBy x floor tablets a event → IsOn a tablets
makes_on x floor tablets a p (Serve from (request.Write meta number path op read seen fates) r (Some w) append) is covered = ((covered is.0).2 w refl).1
makes_on x floor tablets a p event is covered = absurd is

pub record Form (x : ℕ) (tablets : List ℕ) (event : Event) : Type 0 where
  pub from : Actor
  pub floor : ℕ
  pub reply : Reply
  pub time : Option ℕ
  pub append : Append
  pub is : event ≡ Serve from (request.Commit x floor tablets) reply time append

form_of : (x c : ℕ) (tablets : List ℕ) (event : Event) → CommitsWith x c tablets event → Form x tablets event
form_of x c tablets (Serve from (request.Commit y floor named) r (Some d) append) is = record {
  from = from;
  floor = floor;
  reply = r;
  time = Some d;
  append = append;
  is = ap (λ (z : ℕ). Serve from (request.Commit z floor named) r (Some d) append) is.0 ∙ ap (λ (ks : List ℕ). Serve from (request.Commit x floor ks) r (Some d) append) is.2;
}
form_of x c tablets event is = absurd is

end_of : (x c : ℕ) (tablets : List ℕ) (event : Event) → CommitsWith x c tablets event → was_logged event ≡ true → IsEndOf x event
end_of x c tablets (Serve from (request.Commit y floor named) r (Some d) Nothing) is logs = cc
end_of x c tablets (Serve from (request.Commit y floor named) r (Some d) Took) is logs = (is.0, tt)
end_of x c tablets (Serve from (request.Commit y floor named) r (Some d) Failed) is logs = (is.0, tt)
end_of x c tablets event is logs = absurd is

write_not_commit : (x : ℕ) (tablets : List ℕ) (event : Event) → IsWriteOf x event → Form x tablets event → ⊥
write_not_commit x tablets event write form = subst (λ (ev : Event). IsWriteOf x ev) form.is write

own_actor : (a : Actor) (e : Entry) (h : History) → Member e (own a h) → e.actor ≡ a
own_actor a e h m = same_true e.actor a (filter_member (λ (f : Entry). same_actor f.actor a) e h m).1

pub forgotten_later : (before b : History) (j : Entry) (x c : ℕ) → StandsOver j b before → IsForgotten b x c → IsForgotten before x c
forgotten_later before b j x c stands gone = record {
  entry = gone.entry;
  tablets = gone.tablets;
  member = member_before gone.entry j b before gone.member stands;
  commits = gone.commits;
  logs = gone.logs;
  applied = λ t m. let s = gone.applied t m in (s.0, member_before s.0 j b before s.1 stands, s.2, s.3);
}

-- where it was forgotten, nothing of it is at the tablet
pub forgotten_none : (config : Config) (h : History) (x c k : ℕ) (p : Intent) → Run config h → IsForgotten h x c → Member p (provisional (own (Tablet k) h)) → p.meta.txn ≡ x → ⊥
forgotten_none config h x c k p run gone m own_txn =
    let a = Tablet k in
    let made = intent_made (standing (own a h)) p m in
    let makes : Makes x p made.0.event = subst (λ (z : ℕ). Makes z p made.0.event) own_txn made.2 in
    let in_own = standing_part made.0 (own a h) made.1 in
    let here : Member made.0 h = own_member made.0 a h in_own in
    let at_k = own_actor a made.0 h in_own in
    let form = form_of x c gone.tablets gone.entry.event gone.commits in
    let named : Member k gone.tablets = elim (in_order made.0 gone.entry h here gone.member) [
      | After first st earlier ↦ absurd (no_write_after config h first made.0 gone.entry x run st (makes_write x p made.0.event makes) earlier (end_of x c gone.tablets gone.entry.event gone.commits gone.logs))
      | Before first st earlier ↦ subst (λ (d : Actor). IsOn d gone.tablets) at_k
          (makes_on x form.floor gone.tablets made.0.actor p made.0.event makes
          (commits_cover config h first made.0 gone.entry form.from x form.floor gone.tablets form.reply form.time form.append run st form.is earlier))
      | One same ↦ absurd (write_not_commit x gone.tablets made.0.event (makes_write x p made.0.event makes) (subst (λ (g : Entry). Form x gone.tablets g.event) (sym same) form))
    ] in
    let s = gone.applied k named in
    applied_stays config h s.0 x k run s.1 s.2 s.3 p m own_txn

pub clean_never : (config : Config) (h before : History) (e : Entry) (x c k : ℕ) → Run config h → StandsOver e before h → e.actor ≡ Tablet k → was_logged e.event ≡ true → CleansOf x e.event → CommittedAt h x c → ⊥
clean_never config h before e x c k run stands at logs cleans committed =
    let until = run_until config h before e run stands in
    let served : ServesNext config.lease_us (Tablet k) (own (Tablet k) before) e.reading e.event = subst (λ (d : Actor). ServesNext config.lease_us d (own d before) e.reading e.event) at (serves_at config e before h run.1 stands) in
    let any = any_intent x (provisional (own (Tablet k) before)) (clean_event config.lease_us k x (own (Tablet k) before) e.reading e.event served logs cleans) in
    let told = cleans_begun config h before e x run stands cleans in
    elim told.4 [
      | inl aborted ↦ told_aborted config h told.0 x c run (member_before told.0 e before h (stands_member told.0 told.1 before told.2) stands) aborted committed
      | inr absent ↦
          forgotten_none config before x c k any.0 until
          (forgotten_later before told.1 told.0 x c told.2 (told_absent config h told.1 told.0 x c run (stands_trans told.0 e told.1 before h told.2 stands) told.3 absent committed)) any.1 any.2
    ]

-- ## so it is kept

keeps_event : (x c : ℕ) (event : Event) → ((at : ℕ) → AppliesAt x at event → at ≡ c) → (CleansOf x event → ⊥) → Keeps x c event
keeps_event x c (Serve from (request.Apply y at) r time append) applies cleans = λ same. applies at (same, refl)
keeps_event x c (Serve from (request.Clean y) r time append) applies cleans = cleans
keeps_event x c event applies cleans = tt

-- of a transaction that is committed in the end, over each history before
abbrev Within : History → History → Type 0
Within before h = (e : Entry) (first : History) → StandsOver e first before → StandsOver e first h

all_kept : (config : Config) (h before : History) (k x c : ℕ) → Run config h → Within before h → CommittedAt h x c → AllKept x c (logged (landed (own (Tablet k) before)))
all_kept config h before k x c run within committed =
    let a = Tablet k in
    (since_all (AllKept x c) (Keeps x c) (kept_lands x c) (own a before) (λ e m. absurd m) (λ e first there logs.
    let up = own_stands a e first before there in
    let stands = within e up.0 up.1 in
    let at = own_actor a e before (stands_member e first (own a before) there) in
    keeps_event x c e.event (λ time applies. apply_time config h up.0 e x time c run stands applies committed)
    (λ cleans. clean_never config h up.0 e x c k run stands at logs cleans committed))).now

written_event : (lease k : ℕ) (o : History) (reading : Option ℕ) (m : Actor) (meta : Meta) (number : ℕ) (path : Parts) (op : Op) (read seen : ℕ) (fates : List FateOf) (w : ℕ) (append : Append) →
    Serves lease (Tablet k) o reading (request.Write meta number path op read seen fates) (reply.Written w) (Some w) append →
    WasServed (Serve m (request.Write meta number path op read seen fates) (reply.Written w) (Some w) append) × (was_logged (Serve m (request.Write meta number path op read seen fates) (reply.Written w) (Some w) append) ≡ true)
written_event lease k o reading m meta number path op read seen fates w append served =
    let took = took_of w (Some w) append (written lease (Tablet k) o reading meta number path op read seen fates (reply.Written w) (Some w) append served) in
    subst (λ (b : Append). WasServed (Serve m (request.Write meta number path op read seen fates) (reply.Written w) (Some w) b) × (was_logged (Serve m (request.Write meta number path op read seen fates) (reply.Written w) (Some w) b) ≡ true)) (sym took) (tt, refl)

kept_within : (config : Config) (h before : History) (e : Entry) (k c number w read seen : ℕ) (m : Actor) (meta : Meta) (path : Parts) (op : Op) (fates : List FateOf) (append : Append) →
    Run config h → Run config before → Within before h → Member e before → e.actor ≡ Tablet k → e.event ≡ Serve m (request.Write meta number path op read seen fates) (reply.Written w) (Some w) append → CommittedAt h meta.txn c →
    IsKept (record { meta = meta; number = number; path = path; op = op; wrote = w }) c (provisional (own (Tablet k) before)) (versions (own (Tablet k) before))
kept_within config h before e k c number w read seen m meta path op fates append run until within member at is committed =
    let a = Tablet k in
    let o = own a before in
    let p : Intent = record { meta = meta; number = number; path = path; op = op; wrote = w } in
    let place = member_stands e before member in
    let served : ServesNext config.lease_us a (own a place.0) e.reading (Serve m (request.Write meta number path op read seen fates) (reply.Written w) (Some w) append) =
    subst (λ (ev : Event). ServesNext config.lease_us a (own a place.0) e.reading ev) is (subst (λ (d : Actor). ServesNext config.lease_us d (own d place.0) e.reading e.event) at (serves_at config e place.0 before until.1 place.1)) in
    let was = written_event config.lease_us k (own a place.0) e.reading m meta number path op read seen fates w append served in
    let served_e : WasServed e.event = subst (λ (ev : Event). WasServed ev) (sym is) was.0 in
    let logs_e : was_logged e.event ≡ true = subst (λ (ev : Event). was_logged ev ≡ true) (sym is) was.1 in
    let counts : Member e (counted false o) = counts_served e false o (member_own e a before at member) served_e in
    let stands = standing_landed config.lease_us a o (serves_own config a before until.1) (own_all a before) in
    let in_log : Member e (logged (landed o)) =
    subst (λ (l : History). Member e l) stands (subst (λ (l : History). Member e (logged l)) (sym (counting_own a o (own_all a before))) (member_filter (λ (f : Entry). was_logged f.event) e (counted false o) counts logs_e)) in
    let makes : Makes meta.txn p e.event = subst (λ (ev : Event). Makes meta.txn p ev) (sym is) (refl, refl) in
    subst (λ (l : History). IsKept p c (provisional_over l) (versions_over l)) (sym stands) (all_kept config h before k meta.txn c run within committed e in_log p makes)

pub committed_kept : CommittedIsKept
committed_kept config h e k c number w read seen m meta path op fates append run member at is committed =
    kept_within config h h e k c number w read seen m meta path op fates append run run (λ f first there. there) member at is committed

-- and so it is wherever another entry stands, though it may commit only later
pub kept_before : (config : Config) (h before : History) (f e : Entry) (k c number w read seen : ℕ) (m : Actor) (meta : Meta) (path : Parts) (op : Op) (fates : List FateOf) (append : Append) →
    Run config h → StandsOver f before h → Member e before → e.actor ≡ Tablet k → e.event ≡ Serve m (request.Write meta number path op read seen fates) (reply.Written w) (Some w) append → CommittedAt h meta.txn c →
    IsKept (record { meta = meta; number = number; path = path; op = op; wrote = w }) c (provisional (own (Tablet k) before)) (versions (own (Tablet k) before))
kept_before config h before f e k c number w read seen m meta path op fates append run stands member at is committed =
    kept_within config h before e k c number w read seen m meta path op fates append run (run_until config h before f run stands) (λ g first there. stands_trans g f first before h there stands) member at is committed
