-- Each commit is told at its time, and where one is told it is there.
use Rattle.std.proofs.Common.{◌≡◌, ℕ, Bool, true, false, List, [], ◌∷◌, ◌++◌, Option, Some, None, Result, Ok, Err, max, nat_eq, refl, sym, ◌∙◌, ap, subst, inl, inr, ◌⊎◌, if◌then◌else◌}
use Rattle.hybrid_time.specs.declared.time_refusal.TimeRefusal.{TimeRefusal}
use Rattle.doc_path.specs.Path.{Parts}
use Rattle.txn_data.specs.declared.actor.Actor.{Actor}
use Rattle.txn_data.specs.declared.actor.Actor.TheVariants.{Tablet, Status, Session, Applier}
use Rattle.txn_data.specs.declared.append.Append.{Append}
use Rattle.txn_data.specs.declared.append.Append.TheVariants as appended
use Rattle.txn_data.specs.declared.command.Command.{Command}
use Rattle.txn_data.specs.declared.committed_txn.CommittedTxn.{CommittedTxn}
use Rattle.txn_data.specs.declared.config.Config.{Config}
use Rattle.txn_data.specs.declared.fate.Fate.TheVariants as fate
use Rattle.txn_data.specs.declared.fate_of.FateOf.{FateOf}
use Rattle.txn_data.specs.declared.op.Op.{Op}
use Rattle.txn_data.specs.declared.refusal.Refusal.{Refusal}
use Rattle.txn_data.specs.declared.refusal.Refusal.TheVariants as refusal
use Rattle.txn_data.specs.declared.request.Request.TheVariants as request
use Rattle.txn_data.specs.declared.reply.Reply.TheVariants as reply
use Rattle.txn_data.specs.declared.told.Told.TheVariants as told
use Rattle.txn_data.specs.declared.event.Event.{Event}
use Rattle.txn_data.specs.declared.event.Event.TheVariants.{Serve, Tell}
use Rattle.txn_data.specs.declared.entry.Entry.{Entry}
use Rattle.txn_types.specs.Lists.{Member, or_zero}
use Rattle.txn_types.specs.History.{History, counting, own, standing, was_logged}
use Rattle.txn_types.specs.Committed.{snapshot_by, single_by, committed_snapshots, committed}
use Rattle.txn_types.specs.Clock.{Answer, Own, refusal_answer, logged, timed, timed_answer, holds, clock_time, lease_end, last_time, has_given, down_since}
use Rattle.txn_types.specs.Tablet.{tablet_standing, write_answer, provisional, conflict, greatest_fate}
use Rattle.txn_types.specs.Reads.{before_start}
use Rattle.txn_types.specs.Session.{Keeps}
use Rattle.txn_types.specs.Run.{Run, Serves, mover_at}
use Rattle.law_machines.specs.Own.{ServesNext, StandsOver}
use Rattle.law_machines.proofs.Basics.{eq_true, member_cases, flat_member, member_flat, filter_member, member_left, member_right}
use Rattle.law_machines.proofs.Counted.{own_all, counting_own}
use Rattle.law_machines.proofs.Landed.{standing_landed}
use Rattle.law_machines.proofs.Owns.{serves_own, serves_at, member_stands, stands_member, counted_counting, in_order, Before, After, One, counting_part}
use Rattle.law_clocks.proofs.Runs.{member_before}
use Rattle.law_messages.proofs.Rules.{entry}
use Rattle.law_owners.specs.Owner.{home_of, Uses, IsOfTable, IsHomedAt}
use Rattle.law_owners.proofs.Runs.{requests_homed, ids_once, IsSingleOf, single_uses}
use Rattle.law_fates.specs.Laws.{CommittedAt, Tells}
use Rattle.law_fates.proofs.Life.{Life, Fresh, Open, Finished, Dead, begun, finished, died, life_after, life}
use Rattle.law_fates.proofs.Runs.{home_log, committed_finished, commits_once, told_committed, taken_counts}
use Rattle.law_fates.proofs.Told.{WasTaken}
use Rattle.law_courses.specs.Laws.{CameAbout}
use Rattle.law_courses.proofs.Courses.{told_came_about}
use Rattle.law_told_commits.proofs.Says.{ToldBy, WasTold, program_came}
use Rattle.law_told_commits.specs.Laws.{TellsCommit, CommitTimesAreTold, TellsOfCommit, ToldCommitsAreThere}

-- ## what is committed was begun

abbrev pub Begins : ℕ → Event → Type 0
Begins x (Serve from (request.Begin y isolation priority) r time append) = y ≡ x
Begins x event = ⊥

still_fresh : (b : Bool) (v w : Life) → (v ≡ Fresh → w ≡ Fresh) → v ≡ Fresh → (if b then w else v) ≡ Fresh
still_fresh true v w goes is = goes is
still_fresh false v w goes is = is

fresh_finished : (c : ℕ) (v : Life) → v ≡ Fresh → finished c v ≡ Fresh
fresh_finished c Fresh is = refl
fresh_finished c Open is = cc
fresh_finished c (Finished d) is = cc
fresh_finished c Dead is = cc

fresh_died : (v : Life) → v ≡ Fresh → died v ≡ Fresh
fresh_died Fresh is = refl
fresh_died Open is = cc
fresh_died (Finished d) is = cc
fresh_died Dead is = cc

begin_choice : (b : Bool) (x y : ℕ) (v : Life) → nat_eq y x ≡ b → v ≡ Fresh → ((if b then begun v else v) ≡ Fresh) ⊎ (y ≡ x)
begin_choice true x y v same is = inr (eq_true y x same)
begin_choice false x y v same is = inl is

fresh_event : (x : ℕ) (v : Life) (event : Event) → v ≡ Fresh → (life_after x v event ≡ Fresh) ⊎ Begins x event
fresh_event x v (Serve from (request.Begin y isolation priority) r time append) is = begin_choice (nat_eq y x) x y v refl is
fresh_event x v (Serve from (request.Resolve y by priority) r time append) is = inl (still_fresh (nat_eq y x) v (died v) (fresh_died v) is)
fresh_event x v (Serve from (request.Commit y floor tablets) r (Some d) append) is = inl (still_fresh (nat_eq y x) v (finished d v) (fresh_finished d v) is)
fresh_event x v (Serve from (request.Abort y) r time append) is = inl (still_fresh (nat_eq y x) v (died v) (fresh_died v) is)
fresh_event x v event is = inl is

begun_in : (x : ℕ) (l : History) → (life x l ≡ Fresh) ⊎ ((e : Entry) × Member e l × Begins x e.event)
unfolding life
begun_in x [] = inl refl
begun_in x (f ∷ l) = elim (begun_in x l) [
  | inl fresh ↦ elim (fresh_event x (life x l) f.event fresh) [
    | inl still ↦ inl still
    | inr begins ↦ inr (f, inl refl, begins)
  ]
  | inr old ↦ inr (old.0, inr old.1, old.2)
]

home_member : (config : Config) (x : ℕ) (h : History) (e : Entry) → Run config h → Member e (home_log config x h) → Member e h
home_member config x h e run m =
    let a = Status (home_of config x) in
    let stands : Member e (standing (own a h)) = subst (λ (l : History). Member e l) (sym (standing_landed config.lease_us a (own a h) (serves_own config a h run.1) (own_all a h))) m in
    let counts = (filter_member (λ (f : Entry). was_logged f.event) e (counting (own a h)) stands).0 in
    let counted = counted_counting e a h (subst (λ (l : History). Member e l) (counting_own a (own a h) (own_all a h)) counts) in
    counting_part e h counted

pub committed_begun : (config : Config) (h : History) (x c : ℕ) → Run config h → CommittedAt h x c → (e : Entry) × Member e h × Begins x e.event
committed_begun config h x c run at = elim (begun_in x (home_log config x h)) [
  | inl fresh ↦ let is = committed_finished config h x c run at in cc
  | inr begins ↦ (begins.0, home_member config x h begins.0 run begins.1, begins.2)
]

-- ## an id is of a transaction or of a single write

pub begins_uses : (x : ℕ) (event : Event) → Begins x event → Uses x event
begins_uses x (Serve from (request.Begin y isolation priority) r time append) is = is
begins_uses x event is = absurd is

pub not_both : (x : ℕ) (event : Event) → Begins x event → IsSingleOf x event → ⊥
not_both x (Serve from (request.Begin y isolation priority) r time append) one two = two
not_both x event one two = one

-- two entries that use it are one
pub one_user : (config : Config) (h : History) (e f : Entry) (x : ℕ) → Run config h → Member e h → Member f h → Uses x e.event → Uses x f.event → e ≡ f
one_user config h e f x run m n one two = elim (in_order e f h m n) [
  | Before before stands first ↦ absurd (ids_once config h before f x run stands two e first one)
  | After before stands first ↦ absurd (ids_once config h before e x run stands one f first two)
  | One is ↦ is
]

pub never_both : (config : Config) (h : History) (x c : ℕ) (e : Entry) → Run config h → CommittedAt h x c → Member e h → IsSingleOf x e.event → ⊥
never_both config h x c e run at m single =
    let b = committed_begun config h x c run at in
    let same = one_user config h b.0 e x run b.1 m (begins_uses x b.0.event b.2) (single_uses x e.event single) in
    not_both x e.event (subst (λ (g : Entry). Begins x g.event) same b.2) single

-- ## the time of a single write that is answered

abbrev DoneAt : ℕ → Answer → Type 0
DoneAt at answer = reply.SingleDone at ≡ answer.reply → (answer.time ≡ Some at) × (answer.append ≡ appended.Took)

done_logged : (fails : Bool) (at t : ℕ) → DoneAt at (logged fails true (Some t) (reply.SingleDone t))
done_logged false at t is = let same : at ≡ t = cc in (ap Some (sym same), refl)
done_logged true at t is = cc

done_given : (at lease : ℕ) (end : Option ℕ) (fails : Bool) (time : Result ℕ TimeRefusal) → DoneAt at (timed_answer lease end fails true time (λ c. reply.SingleDone c))
done_given at lease end fails (Err e) is = cc
done_given at lease end fails (Ok t) is = done_logged fails at t is

done_chosen : (b : Bool) (why : Refusal) (at lease : ℕ) (end : Option ℕ) (fails : Bool) (time : Result ℕ TimeRefusal) → DoneAt at (if b then refusal_answer why else timed_answer lease end fails true time (λ c. reply.SingleDone c))
done_chosen true why at lease end fails time is = cc
done_chosen false why at lease end fails time is = done_given at lease end fails time is

done_standing : (d c : Option ℕ) (at : ℕ) (up : Answer) → DoneAt at up → DoneAt at (tablet_standing d (write_answer c None up))
done_standing (Some n) c at up done is = cc
done_standing None (Some other) at up done is = cc
done_standing None None at up done is = done is

done_time : (lease k : ℕ) (o : History) (reading : Option ℕ) (x : ℕ) (path : Parts) (w : Op) (seen : ℕ) (fates : List FateOf) (at : ℕ) (time : Option ℕ) (append : Append) →
    Serves lease (Tablet k) o reading (request.Single x path w seen fates) (reply.SingleDone at) time append → (time ≡ Some at) × (append ≡ appended.Took)
done_time lease k o reading x path w seen fates at time append served =
    let floor = max seen (greatest_fate fates fates) in
    let done = done_standing (down_since o) (conflict x path fates (provisional o)) at (timed lease o served.fails Own floor (or_zero reading) true (λ c. reply.SingleDone c))
    (done_chosen (holds (lease_end lease o) (has_given o) (or_zero reading)) (refusal.LeaseHeld (or_zero (lease_end lease o))) at lease (lease_end lease o) served.fails (clock_time Own (last_time o) floor (or_zero reading)))
    served.replied in
    (served.took ∙ done.0, served.logged ∙ done.1)

-- ## what is told of a commit

-- a committed transaction, or a committed single write, with its entry
pub data Kind (h : History) (x : CommittedTxn) : Type 0 where
  Snapshot : CommittedAt h x.txn x.at → Kind h x
  Single : (e : Entry) → Member e h → Member e (counting h) → Member x (single_by e.event) → Kind h x

pub kind_of : (h : History) (x : CommittedTxn) → Member x (committed h) → Kind h x
unfolding committed committed_snapshots
kind_of h x m =
    let e = flat_member (λ (f : Entry). snapshot_by h f.event ++ single_by f.event) x (counting h) m in
    elim (member_cases x (snapshot_by h e.0.event) (single_by e.0.event) e.2) [
      | inl snapshot ↦ Snapshot (x, member_flat (λ (f : Entry). snapshot_by h f.event) e.0 x (counting h) e.1 snapshot, refl, refl)
      | inr single ↦ Single e.0 (counting_part e.0 h e.1) e.1 single
    ]

single_is : (x : CommittedTxn) (event : Event) → Member x (single_by event) → IsSingleOf x.txn event
single_is x (Serve from (request.Single y path o seen fates) r (Some c) append) m = elim m [ inl is ↦ sym (ap (λ (z : CommittedTxn). z.txn) is) | inr none ↦ absurd none ]
single_is x event m = absurd m

-- the entry took this time, and the log took what it had to log
abbrev TookAt : ℕ → Event → Type 0
TookAt t (Serve from asked r time append) = (time ≡ Some t) × (append ≡ appended.Took)
TookAt t event = ⊥

single_time : (x : CommittedTxn) (event : Event) (at : ℕ) → Member x (single_by event) → TookAt at event → x.at ≡ at
single_time x (Serve from (request.Single y path o seen fates) r (Some c) append) at m took = elim m [ inl same ↦ ap (λ (v : CommittedTxn). v.at) same ∙ some_same c at took.0 | inr none ↦ absurd none ]
  where
    some_same : (c at : ℕ) → Some c ≡ Some at → c ≡ at
    some_same c at is = cc
single_time x event at m took = absurd m

-- told by an entry of a snapshot transaction, or of a single write
pub tells_fate : (y at : ℕ) (event : Event) → ToldBy y at event → Tells y event (fate.Committed at) ⊎ IsSingleOf y event
tells_fate y at (Serve from (request.Commit x floor tablets) (reply.Committed c) time append) is = inl (is.0, ap fate.Committed is.1)
tells_fate y at (Serve from (request.Abort x) (reply.Committed c) time append) is = inl (is.0, ap fate.Committed is.1)
tells_fate y at (Serve from (request.Single x path o seen fates) (reply.SingleDone c) time append) is = inr is.0
tells_fate y at event is = absurd is

tablet_took : (lease : ℕ) (a : Actor) (o : History) (reading : Option ℕ) (x : ℕ) (path : Parts) (w : Op) (seen : ℕ) (fates : List FateOf) (at : ℕ) (time : Option ℕ) (append : Append) → IsOfTable a (request.Single x path w seen fates) →
    Serves lease a o reading (request.Single x path w seen fates) (reply.SingleDone at) time append → (time ≡ Some at) × (append ≡ appended.Took)
tablet_took lease (Tablet k) o reading x path w seen fates at time append of served = done_time lease k o reading x path w seen fates at time append served
tablet_took lease (Status j) o reading x path w seen fates at time append of served = absurd of
tablet_took lease (Session j) o reading x path w seen fates at time append of served = absurd of
tablet_took lease (Applier j) o reading x path w seen fates at time append of served = absurd of

single_took : (config : Config) (a : Actor) (o : History) (reading : Option ℕ) (y at : ℕ) (event : Event) → IsHomedAt config a event → ServesNext config.lease_us a o reading event → ToldBy y at event → IsSingleOf y event → TookAt at event
single_took config a o reading y at (Serve from (request.Single x path w seen fates) (reply.SingleDone c) time append) homed served told is =
    subst (λ (t : ℕ). (time ≡ Some t) × (append ≡ appended.Took)) told.1 (tablet_took config.lease_us a o reading x path w seen fates c time append homed.1 served)
single_took config a o reading y at (Serve from (request.Single x path w seen fates) r time append) homed served told is = absurd told
single_took config a o reading y at event homed served told is = absurd is

told_single : (config : Config) (h : History) (y at : ℕ) (e : Entry) → Run config h → Member e h → ToldBy y at e.event → IsSingleOf y e.event → TookAt at e.event
told_single config h y at e run m told one =
    let place = member_stands e h m in
    single_took config e.actor (own e.actor place.0) e.reading y at e.event (requests_homed config h e run m) (serves_at config e place.0 h run.1 place.1) told one

told_time : (config : Config) (h : History) (y at : ℕ) (x : CommittedTxn) → Run config h → WasTold h y at → Member x (committed h) → x.txn ≡ y → x.at ≡ at
told_time config h y at x run was m same = elim (tells_fate y at was.0.event was.2) [
  | inl tells ↦
      let here = told_committed config h was.0 y at run was.1 tells in
      elim (kind_of h x m) [
        | Snapshot mine ↦ commits_once config h y x.at at run (subst (λ (z : ℕ). CommittedAt h z x.at) same mine) here
        | Single e in_h counts single ↦ absurd (never_both config h y at e run here in_h (subst (λ (z : ℕ). IsSingleOf z e.event) same (single_is x e.event single)))
      ]
  | inr one ↦ elim (kind_of h x m) [
    | Snapshot mine ↦ absurd (never_both config h y x.at was.0 run (subst (λ (z : ℕ). CommittedAt h z x.at) same mine) was.1 one)
    | Single e in_h counts single ↦
        let took = told_single config h y at was.0 run was.1 was.2 one in
        let is : was.0 ≡ e = one_user config h was.0 e y run was.1 in_h (single_uses y was.0.event one) (single_uses y e.event (subst (λ (z : ℕ). IsSingleOf z e.event) same (single_is x e.event single))) in
        single_time x e.event at single (subst (λ (g : Entry). TookAt at g.event) is took)
  ]
]

-- ## and it is there

snapshot_there : (h : History) (y at : ℕ) → CommittedAt h y at → (x : CommittedTxn) × Member x (committed h) × (x.txn ≡ y) × (x.at ≡ at)
unfolding committed committed_snapshots
snapshot_there h y at here =
    let e = flat_member (λ (f : Entry). snapshot_by h f.event) here.0 (counting h) here.1 in
    (here.0, member_flat (λ (f : Entry). snapshot_by h f.event ++ single_by f.event) e.0 here.0 (counting h) e.1 (member_left here.0 (snapshot_by h e.0.event) (single_by e.0.event) e.2), here.2, here.3)

single_made : (y at : ℕ) (event : Event) → IsSingleOf y event → TookAt at event → (x : CommittedTxn) × Member x (single_by event) × (x.txn ≡ y) × (x.at ≡ at)
single_made y at (Serve from (request.Single z path o seen fates) r (Some c) append) one took =
    (record { txn = z; at = c; writes = record { path = path; op = o } ∷ [] }, inl refl, one, let is = took.0 in cc)
single_made y at (Serve from (request.Single z path o seen fates) r None append) one took = let is = took.0 in cc
single_made y at event one took = absurd one

was_taken : (at : ℕ) (event : Event) → TookAt at event → WasTaken event
was_taken at (Serve from asked r time append) took = subst (λ (a : Append). WasTaken (Serve from asked r time a)) (sym took.1) tt
was_taken at event took = absurd took

single_there : (h : History) (y at : ℕ) (e : Entry) → Member e h → IsSingleOf y e.event → TookAt at e.event → (x : CommittedTxn) × Member x (committed h) × (x.txn ≡ y) × (x.at ≡ at)
unfolding committed
single_there h y at e m one took =
    let x = single_made y at e.event one took in (
      x.0,
      member_flat (λ (f : Entry). snapshot_by h f.event ++ single_by f.event) e x.0 (counting h) (taken_counts e h m (was_taken at e.event took))
          (member_right x.0 (snapshot_by h e.event) (single_by e.event) x.1),
      x.2,
      x.3,
    )

commit_there : (config : Config) (h : History) (y at : ℕ) → Run config h → WasTold h y at → (x : CommittedTxn) × Member x (committed h) × (x.txn ≡ y) × (x.at ≡ at)
commit_there config h y at run was = elim (tells_fate y at was.0.event was.2) [
  | inl tells ↦ snapshot_there h y at (told_committed config h was.0 y at run was.1 tells)
  | inr one ↦ single_there h y at was.0 was.1 one (told_single config h y at was.0 run was.1 was.2 one)
]

-- ## the laws

pub line_came : (config : Config) (m : Actor) (g low : History) (s : Keeps) (reading : Option ℕ) (line : Option Command) (y at : ℕ) → CameAbout config m g low s reading line (told.Committed y at) → WasTold g y at
line_came config m g low s reading None y at came = absurd came
line_came config m g low s reading (Some line) y at came = elim came.1 [
  | inl is ↦ program_came config m g reading low s line y at is
  | inr none ↦ cc
]

told_before : (f : Entry) (before h : History) (y at : ℕ) → StandsOver f before h → WasTold (f ∷ before) y at → WasTold h y at
told_before f before h y at stands was = elim was.1 [
  | inl is ↦ (f, stands_member f before h stands, subst (λ (g : Entry). ToldBy y at g.event) is was.2)
  | inr more ↦ (was.0, member_before was.0 f before h more stands, was.2)
]

was_told : (config : Config) (h before : History) (m : Actor) (reading : Option ℕ) (number y at : ℕ) → Run config h → StandsOver (entry m reading (Tell number (told.Committed y at))) before h → WasTold h y at
was_told config h before m reading number y at run stands =
    let e = entry m reading (Tell number (told.Committed y at)) in
    let came = told_came_about config h before e run stands in
    let s = mover_at config m before in
    told_before e before h y at stands (line_came config m (e ∷ before) (before_start m before) s.keeps s.reading s.line y at came)

time_event : (config : Config) (h before : History) (m : Actor) (reading : Option ℕ) (event : Event) → Run config h → StandsOver (entry m reading event) before h → TellsCommit h event
time_event config h before m reading (Tell number (told.Committed y at)) run stands = λ x of same. told_time config h y at x run (was_told config h before m reading number y at run stands) of same
time_event config h before m reading event run stands = tt

pub commit_times : CommitTimesAreTold
commit_times config h e run m =
    let place = member_stands e h m in
    time_event config h place.0 e.actor e.reading e.event run place.1

there_event : (config : Config) (h before : History) (m : Actor) (reading : Option ℕ) (event : Event) → Run config h → StandsOver (entry m reading event) before h → TellsOfCommit h event
there_event config h before m reading (Tell number (told.Committed y at)) run stands = commit_there config h y at run (was_told config h before m reading number y at run stands)
there_event config h before m reading event run stands = tt

pub told_there : ToldCommitsAreThere
told_there config h e run m =
    let place = member_stands e h m in
    there_event config h place.0 e.actor e.reading e.event run place.1
