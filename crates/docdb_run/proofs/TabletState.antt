-- The tablet of one session without transactions: what it holds, what it answers, and what it holds then.
use Rattle.std.proofs.Common.{◌≡◌, ℕ, ◌<◌, ◌≤◌, max, min, Bool, true, false, List, [], ◌∷◌, ◌++◌, Option, Some, None, Ok, Err, refl, ◌∙◌, filter, arith, ◌⊎◌, inl, inr, Result}
use Rattle.std.proofs.lemmas.Bool.{le-ltb}
use Rattle.std.proofs.lemmas.List.{append-nil}
use Rattle.hybrid_time.specs.Time.{next_time, time_at, greatest_reading}
use Rattle.hybrid_time.specs.declared.time_refusal.TimeRefusal.{TimeRefusal}
use Rattle.doc_path.specs.Path.{Parts}
use Rattle.txn_data.specs.declared.actor.Actor.{Actor}
use Rattle.txn_data.specs.declared.append.Append.{Append}
use Rattle.txn_data.specs.declared.append.Append.TheVariants.{Nothing, Took}
use Rattle.txn_data.specs.declared.op.Op.{Op}
use Rattle.txn_data.specs.declared.op.Op.TheVariants.{Put}
use Rattle.txn_data.specs.declared.read_kind.ReadKind.TheVariants.{Get}
use Rattle.txn_data.specs.declared.version.Version.{Version}
use Rattle.txn_data.specs.declared.window.Window.{Window}
use Rattle.txn_data.specs.declared.request.Request.{Request}
use Rattle.txn_data.specs.declared.request.Request.TheVariants as request
use Rattle.txn_data.specs.declared.reply.Reply.{Reply}
use Rattle.txn_data.specs.declared.reply.Reply.TheVariants as reply
use Rattle.txn_data.specs.declared.event.Event.TheVariants.{Serve}
use Rattle.txn_data.specs.declared.entry.Entry.{Entry}
use Rattle.txn_types.specs.Lists.{sorted_by, rising}
use Rattle.txn_types.specs.History.{History, was_logged}
use Rattle.txn_types.specs.Clock.{Answer, told_only, refusal_answer, logged, time_refused, timed_answer, holds, lease_end, lease_over, lease_due, has_given, last_time, down_since, down_after, has_failed}
use Rattle.txn_types.specs.Tablet.{provisional, provisional_over, versions, versions_over, tablet_answer, greatest_fate, rows_of}
use Rattle.docdb_run.specs.Course.{version_of, writes_of}
use Rattle.docdb_run.proofs.Counting.{AllServe, counting_is}
use Rattle.docdb_run.proofs.Ordered.{Upto, Ascending, with_version_end, writes_at_all, met_none, upto_end, upto_more, ascending_end}

abbrev pub lease : ℕ
lease = 2000000

-- what stands in the log
abbrev pub kept : History → History
kept h = filter (λ (e : Entry). was_logged e.event) h

-- the tablet's own entries, its last time and its versions
pub record TabletAt (h : History) (last : ℕ) (vs : List Version) : Type 0 where
  pub serve : AllServe h
  pub last_is : last_time h ≡ last
  pub prov : provisional_over (kept h) ≡ []
  pub vers : versions_over (kept h) ≡ vs
  pub down : down_since h ≡ None
  pub sound : has_failed h ≡ false
  pub free : (lease_over lease h ≡ None) ⊎ (has_given h ≡ true)
  pub order : Ascending vs
  pub upto : Upto last vs

pub provisional_none : (h : History) (last : ℕ) (vs : List Version) → TabletAt h last vs → provisional h ≡ []
provisional_none h last vs s = rw (counting_is h s.serve) s.prov

pub versions_are : (h : History) (last : ℕ) (vs : List Version) → TabletAt h last vs → versions h ≡ vs
versions_are h last vs s = rw (counting_is h s.serve) s.vers

pub lease_free : (h : History) (last : ℕ) (vs : List Version) (reading : ℕ) → TabletAt h last vs →
    holds (lease_end lease h) (has_given h) reading ≡ false
lease_free h last vs reading s = rw (counting_is h s.serve) (elim s.free [
  | inl none ↦ rw none refl
  | inr given ↦ rw given (never_held (lease_over lease h) reading)
])
  where
    never_held : (end : Option ℕ) (reading : ℕ) → holds end true reading ≡ false
    never_held None reading = refl
    never_held (Some end) reading = refl

-- ListWrite tells of no other
pub answer_list : (h : History) (last : ℕ) (vs : List Version) (x : ℕ) (path : Parts) (reading : ℕ) → TabletAt h last vs →
    tablet_answer lease h false reading (request.ListWrite x path) ≡ told_only (reply.Others [])
unfolding rising
answer_list h last vs x path reading s = rw (s.down, provisional_none h last vs s) refl

-- ListIntents finds none
pub answer_intents : (h : History) (last : ℕ) (vs : List Version) (reading : ℕ) → TabletAt h last vs →
    tablet_answer lease h false reading request.ListIntents ≡ told_only (reply.Intents [])
unfolding rising
answer_intents h last vs reading s = rw (s.down, provisional_none h last vs s) refl

-- a Single takes the next time
abbrev pub single_answer : Result ℕ TimeRefusal → Answer
single_answer (Ok c) = logged false true (Some c) (reply.SingleDone c)
single_answer (Err e) = refusal_answer (time_refused e)

pub timed_single : (end : Option ℕ) (time : Result ℕ TimeRefusal) →
    timed_answer lease end false true time (λ c. reply.SingleDone c) ≡ single_answer time
timed_single end (Ok c) = refl
timed_single end (Err e) = refl

pub max_zero : (n : ℕ) → max n 0 ≡ n
max_zero n = omega arith

pub answer_single : (h : History) (last : ℕ) (vs : List Version) (x : ℕ) (path : Parts) (op : Op) (seen reading : ℕ) → TabletAt h last vs →
    tablet_answer lease h false reading (request.Single x path op seen []) ≡ single_answer (next_time last seen reading)
unfolding rising greatest_fate
answer_single h last vs x path op seen reading s =
    rw (s.down, provisional_none h last vs s, lease_free h last vs reading s, max_zero seen, s.last_is)
    (timed_single (lease_end lease h) (next_time last seen reading))

-- ListRead takes a time that is not below any, and lists no other
abbrev pub listed_at : ℕ → ℕ → ℕ → ℕ
listed_at last t reading = max (max last t) (time_at reading 0)

abbrev pub append_due : Bool → Append
append_due due = (logged false due None (reply.Others [])).append

abbrev pub is_due : History → ℕ → Bool
is_due h now = lease_due (lease_end lease h) now

pub logged_is : (due : Bool) (time : Option ℕ) (r : Reply) →
    logged false due time r ≡ record { reply = r; time = time; append = append_due due }
logged_is true time r = refl
logged_is false time r = refl

pub answer_listed : (h : History) (last : ℕ) (vs : List Version) (path : Parts) (t g reading : ℕ) → TabletAt h last vs → reading ≤ 4000000000000000 →
    tablet_answer lease h false reading (request.ListRead None (path ∷ []) t g None)
    ≡ record { reply = reply.Listed (min (listed_at last t reading) g) []; time = Some (listed_at last t reading); append = append_due (is_due h (listed_at last t reading)) }
unfolding rising
answer_listed h last vs path t g reading s low =
    rw (s.down, provisional_none h last vs s, lease_free h last vs reading s, s.last_is, le-ltb greatest_reading reading low)
    (logged_is (is_due h (listed_at last t reading)) (Some (listed_at last t reading)) _)

-- Collect answers the value of the versions
pub answer_collected : (h : History) (last : ℕ) (vs : List Version) (path : Parts) (t reading : ℕ) (w : Window) → TabletAt h last vs → Upto t vs →
    tablet_answer lease h false reading (request.Collect None Get (path ∷ []) t (Some w) [])
    ≡ told_only (reply.Collected (rows_of Get (path ∷ []) (writes_of vs)))
unfolding sorted_by
answer_collected h last vs path t reading w s u =
    rw (s.down, provisional_none h last vs s, versions_are h last vs s, append-nil vs, met_none w t (path ∷ []) vs u, writes_at_all t vs s.order u) refl

-- what the tablet holds after an action

pub quiet_step : (h : History) (last : ℕ) (vs : List Version) (a from : Actor) (reading : Option ℕ) (asked : Request) (r : Reply) →
    TabletAt h last vs →
    ((down : Option ℕ) (n : ℕ) → down_after down n (Serve from asked r None Nothing) ≡ down) →
    TabletAt ((record { actor = a; reading = reading; event = Serve from asked r None Nothing }) ∷ h) last vs
unfolding last_time has_given lease_over down_since has_failed
quiet_step h last vs a from reading asked r s same = record {
  serve = (tt, s.serve);
  last_is = s.last_is;
  prov = s.prov;
  vers = s.vers;
  down = same _ _ ∙ s.down;
  sound = s.sound;
  free = s.free;
  order = s.order;
  upto = s.upto;
}

pub listed_step : (h : History) (last : ℕ) (vs : List Version) (a from : Actor) (reading : Option ℕ) (own_txn : Option ℕ)
    (paths : List Parts) (t g now : ℕ) (limit : Option ℕ) (r : Reply) (due : Bool) →
    TabletAt h last vs → last ≤ now →
    TabletAt ((record { actor = a; reading = reading; event = Serve from (request.ListRead own_txn paths t g limit) r (Some now) (append_due due) }) ∷ h) now vs
unfolding last_time has_given lease_over down_since has_failed provisional_over versions_over
listed_step h last vs a from reading own_txn paths t g now limit r true s le = record {
  serve = (tt, s.serve);
  last_is = rw s.last_is (omega arith);
  prov = s.prov;
  vers = s.vers;
  down = s.down;
  sound = s.sound;
  free = inr refl;
  order = s.order;
  upto = upto_more last now vs le s.upto;
}
listed_step h last vs a from reading own_txn paths t g now limit r false s le = record {
  serve = (tt, s.serve);
  last_is = rw s.last_is (omega arith);
  prov = s.prov;
  vers = s.vers;
  down = s.down;
  sound = s.sound;
  free = inr refl;
  order = s.order;
  upto = upto_more last now vs le s.upto;
}

pub single_step : (h : History) (last : ℕ) (vs : List Version) (a from : Actor) (reading : Option ℕ) (x seen c : ℕ)
    (path : Parts) (v : List ℕ) (r : Reply) →
    TabletAt h last vs → last < c →
    TabletAt ((record { actor = a; reading = reading; event = Serve from (request.Single x path (Put v) seen []) r (Some c) Took }) ∷ h) c (vs ++ version_of path v c ∷ [])
unfolding last_time has_given lease_over down_since has_failed provisional_over versions_over
single_step h last vs a from reading x seen c path v r s lt = record {
  serve = (tt, s.serve);
  last_is = rw s.last_is (omega arith);
  prov = s.prov;
  vers = rw s.vers (with_version_end last vs (version_of path v c) s.upto lt);
  down = s.down;
  sound = s.sound;
  free = inr refl;
  order = ascending_end last vs (version_of path v c) s.order s.upto lt;
  upto = upto_end c vs (version_of path v c) (upto_more last c vs (omega arith) s.upto) (omega arith);
}
