-- A write that stood before a listing which fixed a limit is not above that limit.
use Rattle.std.proofs.Common.{◌≡◌, ℕ, ◌≤◌, min, Option, Some, None, refl, sym, subst, arith}
use Rattle.txn_data.specs.declared.actor.Actor.{Actor}
use Rattle.txn_data.specs.declared.actor.Actor.TheVariants.{Tablet}
use Rattle.txn_data.specs.declared.config.Config.{Config}
use Rattle.txn_data.specs.declared.request.Request.TheVariants as request
use Rattle.txn_data.specs.declared.reply.Reply.{Reply}
use Rattle.txn_data.specs.declared.reply.Reply.TheVariants as reply
use Rattle.txn_data.specs.declared.version.Version.{Version}
use Rattle.txn_data.specs.declared.window.Window.{Window}
use Rattle.txn_data.specs.declared.event.Event.{Event}
use Rattle.txn_data.specs.declared.event.Event.TheVariants.{Serve}
use Rattle.txn_data.specs.declared.entry.Entry.{Entry}
use Rattle.txn_types.specs.Lists.{Member}
use Rattle.txn_types.specs.History.{History, own, counting, was_logged}
use Rattle.txn_types.specs.Run.{Run, Serves}
use Rattle.law_machines.specs.Own.{StandsOver, ServesNext, piece}
use Rattle.law_machines.proofs.Basics.{filter_member}
use Rattle.law_machines.proofs.Counted.{counting_own, own_all}
use Rattle.law_machines.proofs.Owns.{member_stands, serves_at, stands_member, counted_counting, run_until}
use Rattle.law_clocks.proofs.Rise.{timed_whole}
use Rattle.law_clocks.proofs.Answered.{list_answered}
use Rattle.law_clocks.proofs.Runs.{times_rise, listings_reach, member_before}
use Rattle.law_owners.specs.Owner.{Uses}
use Rattle.law_versions.specs.Laws.{MakesVersion, CountsIn}
use Rattle.law_versions.proofs.Runs.{stands_event}
use Rattle.law_courses.specs.Course.{IsPart, entry_of}
use Rattle.law_courses.proofs.Parts.{part_trans, part_member}
use Rattle.law_visits.specs.Visits.{Wanted, Visit}
use Rattle.law_visit_rows.proofs.Visits.{lists, list_stands, list_serves, single_counts}
use Rattle.law_visit_rows.proofs.Shown.{written_at}
use Rattle.law_fresh_reads.specs.Limits.{list_at, FixedLimit}

-- ## the listing

abbrev fixes : (h low : History) (k g limit : ℕ) → FixedLimit h low k g limit → Entry
fixes h low k g limit f = list_at k f.reading f.session f.own_txn f.paths f.time_asked g limit f.others f.now f.append

fixes_serves : (config : Config) (h low : History) (k g limit : ℕ) (f : FixedLimit h low k g limit) → Run config h →
    Serves config.lease_us (Tablet k) (own (Tablet k) f.before) f.reading (request.ListRead f.own_txn f.paths f.time_asked g None) (reply.Listed limit f.others) (Some f.now) f.append
fixes_serves config h low k g limit f run = serves_at config (fixes h low k g limit f) f.before h run.1 f.stands

fixes_whole : (config : Config) (h low : History) (k g limit : ℕ) (f : FixedLimit h low k g limit) → Run config h → piece (own (Tablet k) f.before) ≡ None
fixes_whole config h low k g limit f run =
    timed_whole config.lease_us (Tablet k) (own (Tablet k) f.before) f.reading (Serve f.session (request.ListRead f.own_txn f.paths f.time_asked g None) (reply.Listed limit f.others) (Some f.now) f.append) f.now
    (fixes_serves config h low k g limit f run) refl

-- ## a write before it counts there

counts_event : (config : Config) (h before : History) (l e : Entry) (k : ℕ) (v : Version) (event : Event) → Run config h → StandsOver l before h → l.actor ≡ Tablet k → piece (own (Tablet k) before) ≡ None → Member e before → e.actor ≡ Tablet k → e.event ≡ event →
    MakesVersion h v e event → CountsIn before e event
counts_event config h before l e k v (Serve from (request.Write meta number p o read seen fates) (reply.Written w) time append) run stands at none m actor is makes = m
counts_event config h before l e k v (Serve from (request.Single y p o seen fates) r (Some c) append) run stands at none m actor is makes =
    single_counts config h before l e (Tablet k) y run stands at actor none m makes.1 (subst (λ (ev : Event). Uses y ev) (sym is) refl)
counts_event config h before l e k v event run stands at none m actor is makes = absurd makes

counted_there : (config : Config) (h before : History) (l e : Entry) (k : ℕ) (v : Version) → Run config h → StandsOver l before h → l.actor ≡ Tablet k → piece (own (Tablet k) before) ≡ None → Member e before → e.actor ≡ Tablet k → MakesVersion h v e e.event →
    Member e (counting before)
counted_there config h before l e k v run stands at none m actor makes =
    let o = own (Tablet k) before in
    let until = run_until config h before l run stands in
    let there = stands_event config h before k v e e.event until actor refl (counts_event config h before l e k v e.event run stands at none m actor refl makes) makes in
    counted_counting e (Tablet k) before (subst (λ (s : History). Member e s) (counting_own (Tablet k) o (own_all (Tablet k) before)) (filter_member (λ (f : Entry). was_logged f.event) e (counting o) there).0)

-- ## so it is not above the limit

pub in_limit : (config : Config) (h low : History) (k g limit : ℕ) (f : FixedLimit h low k g limit) (e : Entry) (v : Version) → Run config h → Member e low → e.actor ≡ Tablet k → MakesVersion h v e e.event → v.at ≤ g → v.wrote ≤ limit
in_limit config h low k g limit f e v run of actor makes in_g =
    let l = fixes h low k g limit f in
    let m : Member e f.before = part_member e low f.before f.later of in
    let in_h : Member e h = member_before e l f.before h m f.stands in
    let place = member_stands e h in_h in
    let served : ServesNext config.lease_us (Tablet k) (own (Tablet k) place.0) e.reading e.event = subst (λ (a : Actor). ServesNext config.lease_us a (own a place.0) e.reading e.event) actor (serves_at config e place.0 h run.1 place.1) in
    let wrote = written_at config h place.0 v k e e.event run place.1 actor refl served makes in
    let counts = counted_there config h f.before l e k v run f.stands refl (fixes_whole config h low k g limit f run) m actor makes in
    let rises = (times_rise config h f.before e l wrote.time f.now run f.stands counts actor wrote.took refl).0 in
    let reach = listings_reach config h l f.time_asked g None limit run (stands_member l f.before h f.stands) (refl, refl, refl, refl) in
    let same : f.now ≡ reach.0 = let both : Some f.now ≡ Some reach.0 = reach.1 in cc in
    let fixed : limit ≡ min reach.0 g = reach.2.fixed in
    let is = wrote.wrote in
    let not_above = wrote.not_above in
    omega (arith, rises, same, fixed, is, not_above, in_g)

-- ## a visit to which no limit was given fixes it

pub own_limit : (config : Config) (h low z : History) (m : Actor) (w : Wanted) (k t : ℕ) (window : Option Window) (answer : Reply) (v : Visit h z m w k t window answer) → Run config h → IsPart low z → v.known ≡ None → FixedLimit h low k w.g v.limit
own_limit config h low z m w k t window answer v run part none =
    let served = list_serves config h z m w k t window answer v run in
    let a = list_answered config.lease_us (Tablet k) (own (Tablet k) v.list_before) v.list_reading w.own_txn w.paths t w.g v.known (reply.Listed v.limit v.others) v.list_time v.list_append served tt in
    let stands : StandsOver (lists h z m w k t window answer v) v.list_before h = list_stands h z m w k t window answer v in
    record {
      session = m;
      own_txn = w.own_txn;
      paths = w.paths;
      time_asked = t;
      others = v.others;
      reading = v.list_reading;
      now = a.now;
      append = v.list_append;
      before = v.list_before;
      stands = subst (λ (n : Option ℕ). StandsOver (entry_of (Tablet k) v.list_reading (Serve m (request.ListRead w.own_txn w.paths t w.g None) (reply.Listed v.limit v.others) n v.list_append)) v.list_before h) a.time
          (subst (λ (n : Option ℕ). StandsOver (entry_of (Tablet k) v.list_reading (Serve m (request.ListRead w.own_txn w.paths t w.g n) (reply.Listed v.limit v.others) v.list_time v.list_append)) v.list_before h) none stands);
      later = part_trans low z v.list_before part v.later;
    }
