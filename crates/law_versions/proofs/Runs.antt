-- The laws of versions in every run.
use Rattle.std.proofs.Common.{◌≡◌, ℕ, true, false, List, Option, Some, refl, sym, ◌∙◌, ap, subst, inl, inr}
use Rattle.txn_data.specs.declared.actor.Actor.{Actor}
use Rattle.txn_data.specs.declared.actor.Actor.TheVariants.{Tablet, Status}
use Rattle.txn_data.specs.declared.append.Append.{Append}
use Rattle.txn_data.specs.declared.append.Append.TheVariants.{Nothing, Took, Failed}
use Rattle.txn_data.specs.declared.config.Config.{Config}
use Rattle.txn_data.specs.declared.fate_of.FateOf.{FateOf}
use Rattle.txn_data.specs.declared.op.Op.{Op}
use Rattle.txn_data.specs.declared.reply.Reply.{Reply}
use Rattle.txn_data.specs.declared.reply.Reply.TheVariants as reply
use Rattle.txn_data.specs.declared.request.Request.TheVariants as request
use Rattle.txn_data.specs.declared.version.Version.{Version}
use Rattle.txn_data.specs.declared.event.Event.{Event}
use Rattle.txn_data.specs.declared.event.Event.TheVariants.{Serve}
use Rattle.txn_data.specs.declared.entry.Entry.{Entry}
use Rattle.doc_path.specs.Path.{Parts}
use Rattle.txn_types.specs.Lists.{Member}
use Rattle.txn_types.specs.History.{History, own, same_actor, counting, standing, was_logged}
use Rattle.txn_types.specs.Tablet.{version_at}
use Rattle.txn_types.specs.Run.{Run}
use Rattle.law_machines.specs.Own.{StandsOver, ServesNext, landed}
use Rattle.law_machines.proofs.Basics.{same_true, filter_member, member_filter}
use Rattle.law_machines.proofs.Counted.{counted, counting_own, counts_served, counted_member, own_all, WasServed}
use Rattle.law_machines.proofs.Owns.{serves_own, serves_at, stands_member, member_stands, member_own, own_member, member_counted, counted_counting, run_until}
use Rattle.law_machines.proofs.Landed.{logged, standing_landed}
use Rattle.law_machines.proofs.Lands.{Grows, Same, More}
use Rattle.law_owners.proofs.Founds.{standing_part}
use Rattle.law_fates.specs.Laws.{CommittedAt}
use Rattle.law_fates.proofs.Life.{Life, Finished, life, life_grows, IsNotBefore}
use Rattle.law_fates.proofs.Runs.{home_log, committed_finished, finished_committed, commits_once}
use Rattle.law_owners.specs.Owner.{home_of}
use Rattle.law_open_txns.proofs.Tables.{Written, Accepted, Faulty, Turned, written, took_of}
use Rattle.law_open_txns.specs.Transaction.{IsLogged}
use Rattle.law_session_order.proofs.Runs.{commits_above}
use Rattle.law_carried_fates.specs.Laws.{AppliesAt, CleansOf}
use Rattle.law_carried_fates.proofs.Runs.{applies_committed}
use Rattle.law_committed_writes.proofs.Kept.{grows_prefix, clean_never}
use Rattle.law_write_order.proofs.Asked.{single_logged}
use Rattle.law_versions.specs.Laws.{MakesVersion, IsMadeIn, IsFront, CountsIn, VersionsAreCommits, IntentsAreWrites, CommitsAreThere, VersionsStay, VersionsAreUnique}
use Rattle.law_versions.proofs.Answered.{write_told}
use Rattle.law_versions.proofs.Places.{place_is}
use Rattle.law_versions.proofs.Same.{same_version}
use Rattle.law_versions.proofs.Log.{Fits, AllFit, IsLog, IsMade, intent_version, version_made, version_stays, is_there}

-- ## what is committed stays so

pub committed_stays : (config : Config) (h before : History) (e : Entry) (x c : ℕ) → Run config h → StandsOver e before h → CommittedAt before x c → CommittedAt h x c
committed_stays config h before e x c run stands committed =
    let was = committed_finished config before x c (run_until config h before e run stands) committed in
    let later : IsNotBefore (Finished c) (life x (home_log config x h)) =
    subst (λ (v : Life). IsNotBefore v (life x (home_log config x h))) was (life_grows x (home_log config x before) (home_log config x h) (grows_prefix (Status (home_of config x)) e before h stands)) in
    finished_committed config h x c run later

-- ## the log of a tablet

in_log : (h : History) (k : ℕ) (e : Entry) → Member e (standing (own (Tablet k) h)) → Member e h × (e.actor ≡ Tablet k) × (was_logged e.event ≡ true)
in_log h k e m =
    let o = own (Tablet k) h in
    let part = standing_part e o m in
    (own_member e (Tablet k) h part, same_true e.actor (Tablet k) (filter_member (λ (f : Entry). same_actor f.actor (Tablet k)) e h part).1, (filter_member (λ (f : Entry). was_logged f.event) e (counting o) m).1)

written_at : (w : ℕ) (r : Reply) (time : Option ℕ) (append : Append) → Written r time append → r ≡ reply.Written w → time ≡ Some w
written_at w r time append (Accepted v is at took) same = let one : v ≡ w = cc in at ∙ ap Some one
written_at w r time append (Faulty is) same = cc
written_at w r time append (Turned why is none nothing) same = cc

fits_event : (config : Config) (h before : History) (k : ℕ) (e : Entry) (event : Event) → Run config h → StandsOver e before h → e.actor ≡ Tablet k → e.event ≡ event → was_logged event ≡ true → Member e (counting h) →
    ServesNext config.lease_us (Tablet k) (own (Tablet k) before) e.reading event → Fits h e event
fits_event config h before k e (Serve from (request.Apply x at) r time append) run stands actor is logs counts served =
    committed_stays config h before e x at run stands (applies_committed config h before e x at run stands (subst (λ (ev : Event). AppliesAt x at ev) (sym is) (refl, refl)))
fits_event config h before k e (Serve from (request.Clean x) r time append) run stands actor is logs counts served =
    λ c committed. clean_never config h before e x c k run stands actor (subst (λ (ev : Event). was_logged ev ≡ true) (sym is) logs) (subst (λ (ev : Event). CleansOf x ev) (sym is) refl) committed
fits_event config h before k e (Serve from (request.Single x path op seen fates) r (Some c) append) run stands actor is logs counts served = counts
fits_event config h before k e (Serve from (request.Write meta number path op read seen fates) r time append) run stands actor is logs counts served = record {
  accepted = λ c w at committed.
      write_told config.lease_us k (own (Tablet k) before) e.reading meta number path op read seen fates r w append
      (subst (λ (t : Option ℕ). ServesNext config.lease_us (Tablet k) (own (Tablet k) before) e.reading (Serve from (request.Write meta number path op read seen fates) r t append)) at served)
      (commits_above config h e c number read seen from meta path op fates r time append run (stands_member e before h stands) is committed).0;
  timed = λ w same. written_at w r time append (written config.lease_us (Tablet k) (own (Tablet k) before) e.reading meta number path op read seen fates r time append served) same;
}
fits_event config h before k e event run stands actor is logs counts served = tt

all_fit : (config : Config) (h : History) (k : ℕ) → Run config h → AllFit h (standing (own (Tablet k) h))
all_fit config h k run e m =
    let a = Tablet k in
    let o = own a h in
    let there = in_log h k e m in
    let place = member_stands e h there.0 in
    let served : ServesNext config.lease_us a (own a place.0) e.reading e.event = subst (λ (d : Actor). ServesNext config.lease_us d (own d place.0) e.reading e.event) there.1 (serves_at config e place.0 h run.1 place.1) in
    let counts : Member e (counted false o) = subst (λ (l : History). Member e l) (counting_own a o (own_all a h)) (filter_member (λ (f : Entry). was_logged f.event) e (counting o) m).0 in
    fits_event config h place.0 k e e.event run place.1 there.1 refl there.2 (counted_counting e a h counts) served

made_in : (h : History) (k : ℕ) (before : History) (v : Version) → IsMade h (standing (own (Tablet k) before)) v → IsMadeIn h before k v
made_in h k before v made = let there = in_log before k made.0 made.1 in (made.0, there.0, there.1, made.2)

is_log : (config : Config) (h : History) (k : ℕ) → Run config h → IsLog h (standing (own (Tablet k) h))
is_log config h k run = record {
  apart = λ u v one two same. let p = place_is u v same in same_version config h k u v run (made_in h k h u one) (made_in h k h v two) p.0 p.1 p.2;
  fits = all_fit config h k run;
  once = λ x c d one two. commits_once config h x c d run one two;
}

-- ## fronts

log_grows : (config : Config) (h before : History) (k : ℕ) → Run config h → IsFront before h → Grows (standing (own (Tablet k) before)) (standing (own (Tablet k) h))
log_grows config h before k run front = elim front [
  | inl same ↦ subst (λ (g : History). Grows (standing (own (Tablet k) before)) (standing (own (Tablet k) g))) same Same
  | inr at ↦
      let a = Tablet k in
      let until = run_until config h before at.0 run at.1 in
      let below = standing_landed config.lease_us a (own a before) (serves_own config a before until.1) (own_all a before) in
      let above = standing_landed config.lease_us a (own a h) (serves_own config a h run.1) (own_all a h) in
      subst (λ (l : History). Grows l (standing (own a h))) (sym below) (subst (λ (l : History). Grows (logged (landed (own a before))) l) (sym above) (grows_prefix a at.0 before h at.1))
]

grown_member : (l k : History) (e : Entry) → Grows l k → Member e l → Member e k
grown_member l _ e Same m = m
grown_member l _ e (More g k grows) m = inr (grown_member l k e grows m)

log_part : (config : Config) (h before : History) (k : ℕ) → Run config h → IsFront before h → (e : Entry) → Member e (standing (own (Tablet k) before)) → Member e (standing (own (Tablet k) h))
log_part config h before k run front e m = grown_member (standing (own (Tablet k) before)) (standing (own (Tablet k) h)) e (log_grows config h before k run front) m

front_fits : (config : Config) (h before : History) (k : ℕ) → Run config h → IsFront before h → AllFit h (standing (own (Tablet k) before))
front_fits config h before k run front e m = all_fit config h k run e (log_part config h before k run front e m)

-- ## the laws

pub are_commits : VersionsAreCommits
are_commits config h before k v run front m = made_in h k before v (version_made h (standing (own (Tablet k) before)) (front_fits config h before k run front) v m)

pub are_writes : IntentsAreWrites
are_writes config h before k c p run front m committed = made_in h k before (version_at c p) (intent_version h (standing (own (Tablet k) before)) c p (front_fits config h before k run front) m committed)

pub stay : VersionsStay
stay config h before k v run front m =
    let log = is_log config h k run in
    version_stays h (standing (own (Tablet k) h)) (standing (own (Tablet k) before)) (standing (own (Tablet k) h)) v log.apart log.fits (log_grows config h before k run front) (λ e n. n) m

pub are_unique : VersionsAreUnique
are_unique config h k u v run one two path at number = same_version config h k u v run one two path at number

-- ## what is committed stands in the log

pub front_run : (config : Config) (h before : History) → Run config h → IsFront before h → Run config before
front_run config h before run front = elim front [
  | inl same ↦ subst (λ (g : History). Run config g) (sym same) run
  | inr at ↦ run_until config h before at.0 run at.1
]

logs_single : (from : Actor) (x : ℕ) (path : Parts) (op : Op) (seen : ℕ) (fates : List FateOf) (r : Reply) (time : Option ℕ) (append : Append) → IsLogged append → was_logged (Serve from (request.Single x path op seen fates) r time append) ≡ true
logs_single from x path op seen fates r time Nothing is = absurd is
logs_single from x path op seen fates r time Took is = refl
logs_single from x path op seen fates r time Failed is = refl

served_at : (config : Config) (before first : History) (k : ℕ) (e : Entry) (event : Event) → Run config before → StandsOver e first before → e.actor ≡ Tablet k → e.event ≡ event → ServesNext config.lease_us (Tablet k) (own (Tablet k) first) e.reading event
served_at config before first k e event run stands actor is =
    subst (λ (ev : Event). ServesNext config.lease_us (Tablet k) (own (Tablet k) first) e.reading ev) is (subst (λ (d : Actor). ServesNext config.lease_us d (own d first) e.reading e.event) actor (serves_at config e first before run.1 stands))

counted_stands : (before : History) (k : ℕ) (e : Entry) → Member e (counted false (own (Tablet k) before)) → was_logged e.event ≡ true → Member e (standing (own (Tablet k) before))
counted_stands before k e counts logs =
    let o = own (Tablet k) before in
    member_filter (λ (f : Entry). was_logged f.event) e (counting o) (subst (λ (l : History). Member e l) (sym (counting_own (Tablet k) o (own_all (Tablet k) before))) counts) logs

pub stands_event : (config : Config) (h before : History) (k : ℕ) (v : Version) (e : Entry) (event : Event) → Run config before → e.actor ≡ Tablet k → e.event ≡ event → CountsIn before e event → MakesVersion h v e event → Member e (standing (own (Tablet k) before))
stands_event config h before k v e (Serve from (request.Write meta number path op read seen fates) (reply.Written w) time append) run actor is member makes =
    let a = Tablet k in
    let event = λ (b : Append). Serve from (request.Write meta number path op read seen fates) (reply.Written w) time b in
    let place = member_stands e before member in
    let took = took_of w time append (written config.lease_us a (own a place.0) e.reading meta number path op read seen fates (reply.Written w) time append (served_at config before place.0 k e (event append) run place.1 actor is)) in
    let was : WasServed e.event × (was_logged e.event ≡ true) =
    subst (λ (ev : Event). WasServed ev × (was_logged ev ≡ true)) (sym is) (subst (λ (b : Append). WasServed (event b) × (was_logged (event b) ≡ true)) (sym took) (tt, refl)) in
    counted_stands before k e (counts_served e false (own a before) (member_own e a before actor member) was.0) was.1
stands_event config h before k v e (Serve from (request.Single x path op seen fates) r (Some c) append) run actor is counts makes =
    let a = Tablet k in
    let event = Serve from (request.Single x path op seen fates) r (Some c) append in
    let counted_e = member_counted e a before actor counts in
    let place = member_stands e before (own_member e a before (counted_member e false (own a before) counted_e)) in
    let logs = single_logged config.lease_us k (own a place.0) e.reading x path op seen fates r c append (served_at config before place.0 k e event run place.1 actor is) in
    counted_stands before k e counted_e (subst (λ (ev : Event). was_logged ev ≡ true) (sym is) (logs_single from x path op seen fates r (Some c) append logs))
stands_event config h before k v e event run actor is member makes = absurd makes

pub are_there : CommitsAreThere
are_there config h before e k v run front actor counts makes =
    is_there h (standing (own (Tablet k) h)) (standing (own (Tablet k) before)) e v (is_log config h k run) (log_part config h before k run front) (stands_event config h before k v e e.event (front_run config h before run front) actor refl counts makes) makes
