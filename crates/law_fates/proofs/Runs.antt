-- The laws of what becomes of a transaction in every run.
use Rattle.std.proofs.Common.{◌≡◌, ℕ, ◌<◌, true, false, Option, Some, refl, sym, ◌∙◌, ap, subst, inl, inr, arith}
use Rattle.txn_data.specs.declared.actor.Actor.{Actor}
use Rattle.txn_data.specs.declared.actor.Actor.TheVariants.{Status}
use Rattle.txn_data.specs.declared.append.Append.{Append}
use Rattle.txn_data.specs.declared.append.Append.TheVariants.{Nothing, Took, Failed}
use Rattle.txn_data.specs.declared.committed_txn.CommittedTxn.{CommittedTxn}
use Rattle.txn_data.specs.declared.config.Config.{Config}
use Rattle.txn_data.specs.declared.fate.Fate.{Fate}
use Rattle.txn_data.specs.declared.fate.Fate.TheVariants as fate
use Rattle.txn_data.specs.declared.request.Request.TheVariants as request
use Rattle.txn_data.specs.declared.reply.Reply.TheVariants as reply
use Rattle.txn_data.specs.declared.event.Event.{Event}
use Rattle.txn_data.specs.declared.event.Event.TheVariants.{Start, Ask, Serve, Hear, Tell, Restarted}
use Rattle.txn_data.specs.declared.entry.Entry.{Entry}
use Rattle.txn_types.specs.Lists.{Member}
use Rattle.txn_types.specs.History.{History, own, was_logged, counting, standing}
use Rattle.txn_types.specs.Committed.{snapshot_by, committed_snapshots, writes}
use Rattle.txn_types.specs.Status.{record_of}
use Rattle.txn_types.specs.Run.{Run}
use Rattle.law_machines.specs.Own.{landed, StandsOver, ServesNext, time_of}
use Rattle.law_machines.proofs.Basics.{member_flat, flat_member, filter_member, member_filter}
use Rattle.law_machines.proofs.Counted.{counting_own, own_all, counts_served, WasServed}
use Rattle.law_machines.proofs.Owns.{serves_own, serves_at, stands_own, stands_member, member_own, member_counted, counted_counting, member_stands, serves_all_at, serves_all_rest, serves_all_first, serves_all_own, counting_part, run_until}
use Rattle.law_machines.proofs.Landed.{logged, standing_landed}
use Rattle.law_machines.proofs.Lands.{Lands, grows_over}
use Rattle.law_owners.specs.Owner.{home_of, IsHomedAt}
use Rattle.law_owners.proofs.Runs.{requests_homed}
use Rattle.law_fates.specs.Laws.{CommittedAt, Tells, CommitsOnce, ToldCommittedIs, ToldAbortedNeverCommits, PendingCommitsAbove}
use Rattle.law_clocks.specs.Laws.{TookOwn}
use Rattle.law_clocks.proofs.Answered.{ask_answered}
use Rattle.law_clocks.proofs.Rise.{past_counted, past_floor, timed_whole}
use Rattle.law_clocks.proofs.Runs.{served_is}
use Rattle.law_fates.proofs.Table.{LandOk, is_logged, commit_is_logged}
use Rattle.law_fates.proofs.Promised.{Unseen, AboveAt, PieceAbove, Promised, promised_step, promised_from}
use Rattle.law_fates.proofs.Life.{Life, Open, Finished, Dead, life, IsNotBefore, life_grows, RecordIs, Commits, commit_finished, finished_commit, resolve_dead, dead_stays}
use Rattle.law_fates.proofs.Own.{lands_own, own_record}
use Rattle.law_fates.proofs.Told.{WasTaken, Told, Before, ByCommit, ByResolve, told_at, told_before}

-- what has become of a transaction by all that took effect at its status tablet
abbrev pub home_log : Config → ℕ → History → History
home_log config x h = logged (landed (own (Status (home_of config x)) h))

pub home_lands : (config : Config) (x : ℕ) (h : History) → Run config h → Lands LandOk (home_log config x h)
home_lands config x h run = lands_own config (home_of config x) h run

-- ## committed is finished

commit_of_event : (h : History) (x : ℕ) (event : Event) (y : CommittedTxn) → Member y (snapshot_by h event) → y.txn ≡ x → Commits x y.at event
commit_of_event h x (Serve from (request.Commit z floor tablets) r (Some c) append) y m is = elim m [
  | inl same ↦ (sym (ap (λ (w : CommittedTxn). w.txn) same) ∙ is, sym (ap (λ (w : CommittedTxn). w.at) same))
  | inr none ↦ absurd none
]
commit_of_event h x event y m is = absurd m

commits_home : (config : Config) (a : Actor) (x c : ℕ) (event : Event) → IsHomedAt config a event → Commits x c event → a ≡ Status (home_of config x)
commits_home config a x c (Serve from (request.Commit z floor tablets) r (Some d) append) homed is = homed.0.1 ∙ ap (λ (w : ℕ). Status (home_of config w)) is.0
commits_home config a x c event homed is = absurd is

commit_logs_event : (lease j : ℕ) (o : History) (reading : Option ℕ) (x c : ℕ) (event : Event) → ServesNext lease (Status j) o reading event → Commits x c event → was_logged event ≡ true
commit_logs_event lease j o reading x c (Serve from (request.Commit z floor tablets) r (Some d) append) served is =
    is_logged from (request.Commit z floor tablets) r (Some d) append (commit_is_logged lease j o reading z floor tablets r d append served)
commit_logs_event lease j o reading x c event served is = absurd is

-- what counts there and was logged took effect
counted_home : (config : Config) (x : ℕ) (h : History) (e : Entry) → Run config h → e.actor ≡ Status (home_of config x) → Member e (counting h) → was_logged e.event ≡ true → Member e (home_log config x h)
counted_home config x h e run at m is =
    let a = Status (home_of config x) in
    let here : Member e (counting (own a h)) = subst (λ (l : History). Member e l) (sym (counting_own a (own a h) (own_all a h))) (member_counted e a h at m) in
    subst (λ (l : History). Member e l) (standing_landed config.lease_us a (own a h) (serves_own config a h run.1) (own_all a h))
    (member_filter (λ (f : Entry). was_logged f.event) e (counting (own a h)) here is)

home_counted : (config : Config) (x : ℕ) (h : History) (e : Entry) → Run config h → Member e (home_log config x h) → Member e (counting h)
home_counted config x h e run m =
    let a = Status (home_of config x) in
    let stands : Member e (standing (own a h)) = subst (λ (l : History). Member e l) (sym (standing_landed config.lease_us a (own a h) (serves_own config a h run.1) (own_all a h))) m in
    let counts = (filter_member (λ (f : Entry). was_logged f.event) e (counting (own a h)) stands).0 in
    counted_counting e a h (subst (λ (l : History). Member e l) (counting_own a (own a h) (own_all a h)) counts)

-- the entry that committed it
pub record CommitEntry (config : Config) (h : History) (x c : ℕ) : Type 0 where
  pub entry : Entry
  pub member : Member entry h
  pub counts : Member entry (counting h)
  pub commits : Commits x c entry.event
  pub home : entry.actor ≡ Status (home_of config x)
  pub was_logged : was_logged entry.event ≡ true

pub commit_entry : (config : Config) (h : History) (x c : ℕ) → Run config h → CommittedAt h x c → CommitEntry config h x c
unfolding committed_snapshots
commit_entry config h x c run at =
    let r = flat_member (λ (e : Entry). snapshot_by h e.event) at.0 (counting h) at.1 in
    let e = r.0 in
    let mh : Member e h = counting_part e h r.1 in
    let commits : Commits x at.0.at e.event = commit_of_event h x e.event at.0 r.2 at.2 in
    let home = commits_home config e.actor x at.0.at e.event (requests_homed config h e run mh) commits in
    let place = member_stands e h mh in
    let served : ServesNext config.lease_us (Status (home_of config x)) (own e.actor place.0) e.reading e.event =
    subst (λ (b : Actor). ServesNext config.lease_us b (own e.actor place.0) e.reading e.event) home (serves_at config e place.0 h run.1 place.1) in
    record {
      entry = e;
      member = mh;
      counts = r.1;
      commits = subst (λ (d : ℕ). Commits x d e.event) at.3 commits;
      home = home;
      was_logged = commit_logs_event config.lease_us (home_of config x) (own e.actor place.0) e.reading x at.0.at e.event served commits;
    }

pub committed_finished : (config : Config) (h : History) (x c : ℕ) → Run config h → CommittedAt h x c → life x (home_log config x h) ≡ Finished c
committed_finished config h x c run at =
    let k = commit_entry config h x c run at in
    commit_finished x c (home_log config x h) k.entry (home_lands config x h run) (counted_home config x h k.entry run k.home k.counts k.was_logged) k.commits

commit_snapshot : (h : History) (x c : ℕ) (event : Event) → Commits x c event → (y : CommittedTxn) × Member y (snapshot_by h event) × (y.txn ≡ x) × (y.at ≡ c)
commit_snapshot h x c (Serve from (request.Commit z floor tablets) r (Some d) append) is = (record { txn = z; at = d; writes = writes h z }, inl refl, is.0, is.1)
commit_snapshot h x c event is = absurd is

counting_committed : (h : History) (x c : ℕ) (e : Entry) → Member e (counting h) → Commits x c e.event → CommittedAt h x c
unfolding committed_snapshots
counting_committed h x c e m is =
    let y = commit_snapshot h x c e.event is in
    (y.0, member_flat (λ (f : Entry). snapshot_by h f.event) e y.0 (counting h) m y.1, y.2, y.3)

pub finished_committed : (config : Config) (h : History) (x c : ℕ) → Run config h → life x (home_log config x h) ≡ Finished c → CommittedAt h x c
finished_committed config h x c run is =
    let r = finished_commit x c (home_log config x h) is in
    counting_committed h x c r.0 (home_counted config x h r.0 run r.1) r.2

-- ## the laws

same_finished : (v : Life) (c d : ℕ) → v ≡ Finished c → v ≡ Finished d → c ≡ d
same_finished v c d one two = cc

pub commits_once : CommitsOnce
commits_once config h x c d run one two =
    same_finished (life x (home_log config x h)) c d (committed_finished config h x c run one) (committed_finished config h x d run two)

pub tells_home : (config : Config) (a : Actor) (x : ℕ) (event : Event) (f : Fate) → IsHomedAt config a event → Tells x event f → a ≡ Status (home_of config x)
tells_home config a x (Serve from (request.AskFate y t) (reply.FateIs told) time append) f homed is = homed.0 ∙ ap (λ (w : ℕ). Status (home_of config w)) is.0
tells_home config a x (Serve from (request.Resolve y by priority) (reply.FateIs told) time append) f homed is = homed.0.1 ∙ ap (λ (w : ℕ). Status (home_of config w)) is.0
tells_home config a x (Serve from (request.Commit y floor tablets) (reply.Committed d) time append) f homed is = homed.0.1 ∙ ap (λ (w : ℕ). Status (home_of config w)) is.0
tells_home config a x (Serve from (request.Commit y floor tablets) (reply.AbortedBy by) time append) f homed is = homed.0.1 ∙ ap (λ (w : ℕ). Status (home_of config w)) is.0
tells_home config a x (Serve from (request.Abort y) (reply.Committed d) time append) f homed is = homed.0.1 ∙ ap (λ (w : ℕ). Status (home_of config w)) is.0
tells_home config a x event f homed is = absurd is

pub record_before : (config : Config) (x : ℕ) (before : History) → Run config before → RecordIs (record_of x (own (Status (home_of config x)) before)) (life x (home_log config x before))
record_before config x before run =
    let a = Status (home_of config x) in
    subst (λ (l : History). RecordIs (record_of x (own a before)) (life x l)) (standing_landed config.lease_us a (own a before) (serves_own config a before run.1) (own_all a before))
    (own_record config (home_of config x) x before run)

-- what was told of a transaction, with where it was told
told_in : (config : Config) (h : History) (e : Entry) (x : ℕ) (f : Fate) → Run config h → Member e h → Tells x e.event f →
    (before : History) × StandsOver e before h × (e.actor ≡ Status (home_of config x)) × Told (own (Status (home_of config x)) before) x e.event f
told_in config h e x f run m tells =
    let home = tells_home config e.actor x e.event f (requests_homed config h e run m) tells in
    let place = member_stands e h m in
    let served : ServesNext config.lease_us (Status (home_of config x)) (own (Status (home_of config x)) place.0) e.reading e.event =
    subst (λ (b : Actor). ServesNext config.lease_us b (own b place.0) e.reading e.event) home (serves_at config e place.0 h run.1 place.1) in
    (place.0, place.1, home, told_at config.lease_us (home_of config x) (own (Status (home_of config x)) place.0) e.reading x e.event f served tells)

pub grown : (config : Config) (x : ℕ) (h before : History) (e : Entry) → e.actor ≡ Status (home_of config x) → StandsOver e before h → IsNotBefore (life x (home_log config x before)) (life x (home_log config x h))
grown config x h before e home stands =
    let a = Status (home_of config x) in
    life_grows x (home_log config x before) (home_log config x h) (grows_over e (own a before) (own a h) (stands_own a e before h home stands))

taken_served : (event : Event) → WasTaken event → WasServed event × (was_logged event ≡ true)
taken_served (Serve from asked r time Took) is = (tt, refl)
taken_served (Serve from asked r time Nothing) is = absurd is
taken_served (Serve from asked r time Failed) is = absurd is
taken_served (Restarted from k) is = absurd is
taken_served (Start number line) is = absurd is
taken_served (Ask to asked) is = absurd is
taken_served (Hear from r) is = absurd is
taken_served (Tell number t) is = absurd is

-- what a log took counts
pub taken_counts : (e : Entry) (h : History) → Member e h → WasTaken e.event → Member e (counting h)
taken_counts e h m is = counted_counting e e.actor h (counts_served e false (own e.actor h) (member_own e e.actor h refl m) (taken_served e.event is).0)

later_finished : (v w : Life) (c : ℕ) → IsNotBefore v w → v ≡ Finished c → w ≡ Finished c
later_finished v w c step is = subst (λ (z : Life). IsNotBefore z w) is step

pub told_committed : ToldCommittedIs
told_committed config h e x c run m tells =
    let t = told_in config h e x (fate.Committed c) run m tells in
    elim t.3 [
      | Before told ↦
          let before = run_until config h t.0 e run t.1 in
          let was = told_before (own (Status (home_of config x)) t.0) x (fate.Committed c) (life x (home_log config x t.0)) (record_before config x t.0 before) told in
          finished_committed config h x c run (later_finished (life x (home_log config x t.0)) (life x (home_log config x h)) c (grown config x h t.0 e t.2 t.1) was)
      | ByCommit d is commits taken ↦
          let same : c ≡ d = cc in
          counting_committed h x c e (taken_counts e h m taken) (subst (λ (b : ℕ). Commits x b e.event) (sym same) commits)
      | ByResolve is resolves taken ↦ cc
    ]

told_aborted_dead : (config : Config) (h : History) (e : Entry) (x : ℕ) → Run config h → Member e h → Tells x e.event fate.Aborted → life x (home_log config x h) ≡ Dead
told_aborted_dead config h e x run m tells =
    let t = told_in config h e x fate.Aborted run m tells in
    elim t.3 [
      | Before told ↦
          let before = run_until config h t.0 e run t.1 in
          let was = told_before (own (Status (home_of config x)) t.0) x fate.Aborted (life x (home_log config x t.0)) (record_before config x t.0 before) told in
          dead_stays (life x (home_log config x t.0)) (life x (home_log config x h)) (grown config x h t.0 e t.2 t.1) was
      | ByCommit d is commits taken ↦ cc
      | ByResolve is resolves taken ↦
          resolve_dead x (home_log config x h) e (home_lands config x h run)
          (counted_home config x h e run t.2 (taken_counts e h m taken) (taken_served e.event taken).1) resolves
    ]

finished_not_dead : (v : Life) (c : ℕ) → v ≡ Finished c → v ≡ Dead → ⊥
finished_not_dead v c one two = cc

pub told_aborted : ToldAbortedNeverCommits
told_aborted config h e x c run m tells at =
    finished_not_dead (life x (home_log config x h)) c (committed_finished config h x c run at) (told_aborted_dead config h e x run m tells)

-- ## Pending

commits_time : (x c : ℕ) (event : Event) → Commits x c event → (time_of event ≡ Some c) × TookOwn event
commits_time x c (Serve from (request.Commit y floor tablets) r (Some d) append) is = (ap Some is.1, refl)
commits_time x c event is = absurd is

pending_promised : (config : Config) (h : History) (e : Entry) (m : Actor) (x t : ℕ) (time : Option ℕ) (append : Append) → Run config h → Member e h →
    e.event ≡ Serve m (request.AskFate x t) (reply.FateIs fate.Pending) time append → Promised x t (own (Status (home_of config x)) h)
pending_promised config h e m x t time append run member is =
    let a = Status (home_of config x) in
    let lease = config.lease_us in
    let tells : Tells x e.event fate.Pending = subst (λ (ev : Event). Tells x ev fate.Pending) (sym is) (refl, refl) in
    let told = told_in config h e x fate.Pending run member tells in
    let b = own a told.0 in
    let o = own a h in
    let before = run_until config h told.0 e run told.1 in
    let all = serves_own config a h run.1 in
    let served : ServesNext lease a b e.reading (Serve m (request.AskFate x t) (reply.FateIs fate.Pending) time append) =
    subst (λ (ev : Event). ServesNext lease a b e.reading ev) is
    (subst (λ (c : Actor). ServesNext lease c (own c told.0) e.reading e.event) told.2 (serves_at config e told.0 h run.1 told.1)) in
    let answered = ask_answered lease a b e.reading x t (reply.FateIs fate.Pending) time append served tt in
    let now : time_of e.event ≡ Some answered.now = ap time_of is ∙ answered.time in
    let low = past_floor lease a b e.reading (Serve m (request.AskFate x t) (reply.FateIs fate.Pending) time append) answered.now served answered.time in
    let counts : WasServed e.event = subst (λ (ev : Event). WasServed ev) (sym is) (served_is m (request.AskFate x t) (reply.FateIs fate.Pending) time append answered.append) in
    let is_open : life x (home_log config x told.0) ≡ Open = elim told.3 [
      | Before stood ↦ told_before b x fate.Pending (life x (home_log config x told.0)) (record_before config x told.0 before) stood
      | ByCommit d never commits taken ↦ cc
      | ByResolve never resolves taken ↦ cc
    ] in
    let whole = timed_whole lease a b e.reading (Serve m (request.AskFate x t) (reply.FateIs fate.Pending) time append) answered.now served answered.time in
    let first : Promised x t b = record {
      unseen = subst (λ (v : Life). Unseen t v) (sym is_open) tt;
      piece_above = subst (λ (q : Option Entry). PieceAbove x t q) (sym whole) tt;
    } in
    promised_from x t e b o (stands_own a e told.0 h told.2 told.1)
    (promised_step x t e b (subst (λ (ev : Event). AboveAt x t ev) (sym is) (λ c none. absurd none)) first)
    (λ f c at below d commits.
    let up_to = serves_all_at lease a f c o all at in
    let ct = commits_time x d f.event commits in
    let rest = serves_all_rest lease a f c up_to in
    let past = past_counted lease a c f.reading f.event d rest (serves_all_own lease a c rest) (serves_all_first lease a f c up_to) ct.0
    e answered.now (counts_served e false c (stands_member e b c below) counts) now in
    let high = past.1 ct.1 in
    omega (arith, low.0, high))

unseen_above : (t c : ℕ) (v : Life) → v ≡ Finished c → Unseen t v → t < c
unseen_above t c v is un = subst (λ (z : Life). Unseen t z) is un

pub pending_above : PendingCommitsAbove
pending_above config h e m x t c time append run member is at =
    unseen_above t c (life x (home_log config x h)) (committed_finished config h x c run at) (pending_promised config h e m x t time append run member is).unseen
