-- Where a table lets an entry take a time, the actor is up, its lease does not hold, and the time is one of its clock.
use Rattle.std.proofs.Common.{◌≡◌, ℕ, ◌*◌, ◌≤◌, max, Bool, true, false, ◌∷◌, Option, Some, None, Result, Ok, Err, nat_lt, refl, sym, ◌∙◌, if◌then◌else◌}
use Rattle.hybrid_time.specs.declared.time_refusal.TimeRefusal.{TimeRefusal}
use Rattle.txn_data.specs.declared.actor.Actor.{Actor}
use Rattle.txn_data.specs.declared.actor.Actor.TheVariants.{Tablet}
use Rattle.txn_data.specs.declared.append.Append.{Append}
use Rattle.txn_data.specs.declared.request.Request.{Request}
use Rattle.txn_data.specs.declared.request.Request.TheVariants as request
use Rattle.txn_data.specs.declared.reply.Reply.{Reply}
use Rattle.txn_data.specs.declared.reply.Reply.TheVariants as reply
use Rattle.txn_data.specs.declared.refusal.Refusal.TheVariants as refusal
use Rattle.txn_types.specs.Lists.{or_zero}
use Rattle.txn_types.specs.History.{History}
use Rattle.txn_types.specs.Clock.{Answer, told_only, refusal_answer, logged, timed, timed_answer, holds, clock_time, lease_due, lease_end, last_time, has_given, down_since}
use Rattle.txn_types.specs.Tablet.{tablet_answer, tablet_up, tablet_standing, write_answer, has_any, provisional, conflict, greatest_above, related_commits, versions, greatest_fate}
use Rattle.txn_types.specs.Status.{status_answer, status_up, status_standing, record_of, commit_answer, Record, NoRecord, Pending, Committed, AbortedBy, abort_answer, resolved, may_forget, is_sure, noted}
use Rattle.txn_types.specs.Run.{Serves, machine_answer}
use Rattle.safe_time.specs.ActorClock.{ClockState, kind_of, lease_for, served, clock_of}
use Rattle.safe_time.specs.Course.{IsLater}
use Rattle.safe_time.proofs.Courses.{served_is}
use Rattle.leased_log.specs.Times.{takes_own}

-- ---- what a time of a clock has to do with its last one and the reading

pub record Taken (lease : ℕ) (h : History) (own : Bool) (reading time : ℕ) : Type 0 where
  pub free : holds (lease_end lease h) (has_given h) reading ≡ false
  pub later : IsLater own time (last_time h)
  pub read : reading * 4096 ≤ time

served_with : (c : ClockState) (reading floor : ℕ) (own : Bool) (time : ℕ) → holds c.until c.given reading ≡ false → clock_time (kind_of own) c.last floor reading ≡ Ok time
    → served c reading floor own ≡ Ok (record { time = time; lease = lease_for c time })
served_with c reading floor own time free is = rw (free, is) refl

logged_time : (fails due : Bool) (time : Option ℕ) (r : Reply) → (logged fails due time r).time ≡ time
logged_time fails false time r = refl
logged_time false true time r = refl
logged_time true true time r = refl

taken_answer : (lease : ℕ) (end : Option ℕ) (fails records : Bool) (given : Result ℕ TimeRefusal) (r : ℕ → Reply) (time : ℕ) → (timed_answer lease end fails records given r).time ≡ Some time → given ≡ Ok time
taken_answer lease end fails records (Err why) r time is = cc
taken_answer lease end fails true (Ok t) r time is = let e : Some t ≡ Some time = sym (logged_time fails true (Some t) (r t)) ∙ is in cc
taken_answer lease end fails false (Ok t) r time is = let e : Some t ≡ Some time = sym (logged_time fails (lease_due end t) (Some t) (r t)) ∙ is in cc

taken_free : (held : Bool) (until lease : ℕ) (end : Option ℕ) (fails records : Bool) (given : Result ℕ TimeRefusal) (r : ℕ → Reply) (time : ℕ)
    → (if held then refusal_answer (refusal.LeaseHeld until) else timed_answer lease end fails records given r).time ≡ Some time → (held ≡ false) × (given ≡ Ok time)
taken_free true until lease end fails records given r time is = cc
taken_free false until lease end fails records given r time is = (refl, taken_answer lease end fails records given r time is)

taken_timed : (lease : ℕ) (h : History) (fails own : Bool) (floor reading : ℕ) (records : Bool) (r : ℕ → Reply) (time : ℕ)
    → (timed lease h fails (kind_of own) floor reading records r).time ≡ Some time → Taken lease h own reading time
taken_timed lease h fails own floor reading records r time is =
    let c : ClockState = clock_of lease h in
    let t = taken_free (holds (lease_end lease h) (has_given h) reading) (or_zero (lease_end lease h)) lease (lease_end lease h) fails records (clock_time (kind_of own) (last_time h) floor reading) r time is in
    let s = served_is c reading floor own (record { time = time; lease = lease_for c time }) (served_with c reading floor own time t.0 t.1) in
    record { free = s.free; later = s.time.0; read = s.time.1 }

-- ---- the rows of the tables

taken_none : {P : Type 0} (fails due : Bool) (r : Reply) (time : ℕ) → (logged fails due None r).time ≡ Some time → P
taken_none fails due r time is = let e : None ≡ Some time = sym (logged_time fails due None r) ∙ is in cc

taken_write : (conflicting above : Option ℕ) (done : Answer) (time : ℕ) → (write_answer conflicting above done).time ≡ Some time → done.time ≡ Some time
taken_write (Some other) above done time is = cc
taken_write None (Some at) done time is = cc
taken_write None None done time is = is

taken_apply : (any : Bool) (done : Answer) (time : ℕ) → (if any then done else told_only reply.AppliedHere).time ≡ Some time → done.time ≡ Some time
taken_apply true done time is = is
taken_apply false done time is = cc

taken_tablet : (lease : ℕ) (h : History) (fails : Bool) (reading : ℕ) (asked : Request) (time : ℕ) → (tablet_up lease h fails reading asked).time ≡ Some time
    → Taken lease h (takes_own asked) reading time
taken_tablet lease h fails reading (request.Write meta number path op read seen fates) time is =
    taken_timed lease h fails true seen reading true (λ w. reply.Written w) time
    (taken_write (conflict meta.txn path fates (provisional h)) (greatest_above read (related_commits meta.txn path fates (provisional h) (versions h)))
    (timed lease h fails (kind_of true) seen reading true (λ w. reply.Written w)) time is)
taken_tablet lease h fails reading (request.Single x path op seen fates) time is =
    taken_timed lease h fails true (max seen (greatest_fate fates fates)) reading true (λ c. reply.SingleDone c) time
    (taken_write (conflict x path fates (provisional h)) None (timed lease h fails (kind_of true) (max seen (greatest_fate fates fates)) reading true (λ c. reply.SingleDone c)) time is)
taken_tablet lease h fails reading (request.ListRead own_txn paths t g limit) time is = taken_timed lease h fails false t reading false _ time is
taken_tablet lease h fails reading (request.Apply x at) time is =
    taken_timed lease h fails false at reading true (λ now. reply.AppliedHere) time
    (taken_apply (has_any x (provisional h)) (timed lease h fails (kind_of false) at reading true (λ now. reply.AppliedHere)) time is)
taken_tablet lease h fails reading (request.Clean x) time is = taken_none fails (has_any x (provisional h)) reply.Cleaned time is
taken_tablet lease h fails reading asked time is = cc

taken_commit : (kept : Record) (done : Answer) (time : ℕ) → (commit_answer kept done).time ≡ Some time → done.time ≡ Some time
taken_commit (Pending priority) done time is = is
taken_commit (Committed at tablets) done time is = cc
taken_commit (AbortedBy by) done time is = cc
taken_commit NoRecord done time is = cc

taken_abort : {P : Type 0} (fails : Bool) (kept : Record) (time : ℕ) → (abort_answer fails kept).time ≡ Some time → P
taken_abort fails (Committed at tablets) time is = cc
taken_abort fails (Pending priority) time is = taken_none fails true reply.Ended time is
taken_abort fails (AbortedBy by) time is = taken_none fails true reply.Ended time is
taken_abort fails NoRecord time is = cc

taken_lower : {P : Type 0} (lower fails : Bool) (aborted pending : Reply) (time : ℕ) → (if lower then logged fails true None aborted else told_only pending).time ≡ Some time → P
taken_lower true fails aborted pending time is = taken_none fails true aborted time is
taken_lower false fails aborted pending time is = cc

taken_resolved : {P : Type 0} (fails : Bool) (priority : ℕ) (kept : Record) (time : ℕ) → (resolved fails priority kept).time ≡ Some time → P
taken_resolved fails priority (Pending own) time is = taken_lower (nat_lt own priority) fails _ _ time is
taken_resolved fails priority (Committed at tablets) time is = cc
taken_resolved fails priority (AbortedBy by) time is = cc
taken_resolved fails priority NoRecord time is = cc

taken_status : (lease : ℕ) (h : History) (fails : Bool) (reading : ℕ) (asked : Request) (time : ℕ) → (status_up lease h fails reading asked).time ≡ Some time
    → Taken lease h (takes_own asked) reading time
taken_status lease h fails reading (request.Begin x isolation priority) time is = taken_none fails true reply.Begun time is
taken_status lease h fails reading (request.AskFate x t) time is = taken_timed lease h fails false t reading false _ time is
taken_status lease h fails reading (request.Resolve x by priority) time is = taken_resolved fails priority (record_of x h) time is
taken_status lease h fails reading (request.Commit x floor tablets) time is =
    taken_timed lease h fails true floor reading true (λ c. reply.Committed c) time
    (taken_commit (record_of x h) (timed lease h fails (kind_of true) floor reading true (λ c. reply.Committed c)) time is)
taken_status lease h fails reading (request.Abort x) time is = taken_abort fails (record_of x h) time is
taken_status lease h fails reading (request.Applied x tablet) time is = taken_none fails (may_forget (is_sure x h) (tablet ∷ noted x h) (record_of x h)) reply.Noted time is
taken_status lease h fails reading asked time is = cc

-- ---- it is up

pub record TakenUp (lease : ℕ) (h : History) (own : Bool) (reading time : ℕ) : Type 0 where
  pub up : down_since h ≡ None
  pub taken : Taken lease h own reading time

taken_tablet_up : (lease : ℕ) (h : History) (fails : Bool) (reading : ℕ) (asked : Request) (time : ℕ) (down : Option ℕ) → down_since h ≡ down
    → (tablet_standing down (tablet_up lease h fails reading asked)).time ≡ Some time → TakenUp lease h (takes_own asked) reading time
taken_tablet_up lease h fails reading asked time (Some n) down is = cc
taken_tablet_up lease h fails reading asked time None down is = record { up = down; taken = taken_tablet lease h fails reading asked time is }

taken_status_up : (lease : ℕ) (h : History) (fails : Bool) (reading : ℕ) (asked : Request) (time : ℕ) (down : Option ℕ) → down_since h ≡ down
    → (status_standing down (status_up lease h fails reading asked)).time ≡ Some time → TakenUp lease h (takes_own asked) reading time
taken_status_up lease h fails reading asked time (Some n) down is = cc
taken_status_up lease h fails reading asked time None down is = record { up = down; taken = taken_status lease h fails reading asked time is }

taken_by_tablet : (lease : ℕ) (h : History) (fails : Bool) (reading : ℕ) (asked : Request) (time : ℕ) → (tablet_answer lease h fails reading asked).time ≡ Some time
    → TakenUp lease h (takes_own asked) reading time
taken_by_tablet lease h fails reading request.Restart time is = cc
taken_by_tablet lease h fails reading asked time is = taken_tablet_up lease h fails reading asked time (down_since h) refl is

taken_by_status : (lease : ℕ) (h : History) (fails : Bool) (reading : ℕ) (asked : Request) (time : ℕ) → (status_answer lease h fails reading asked).time ≡ Some time
    → TakenUp lease h (takes_own asked) reading time
taken_by_status lease h fails reading request.Restart time is = cc
taken_by_status lease h fails reading asked time is = taken_status_up lease h fails reading asked time (down_since h) refl is

taken_by : (lease : ℕ) (a : Actor) (h : History) (fails : Bool) (reading : ℕ) (asked : Request) (time : ℕ) → (machine_answer lease a h fails reading asked).time ≡ Some time
    → TakenUp lease h (takes_own asked) reading time
taken_by lease (Tablet k) h fails reading asked time is = taken_by_tablet lease h fails reading asked time is
taken_by lease a h fails reading asked time is = taken_by_status lease h fails reading asked time is

pub taken_served : (lease : ℕ) (a : Actor) (h : History) (reading : Option ℕ) (asked : Request) (r : Reply) (time : ℕ) (append : Append) → Serves lease a h reading asked r (Some time) append
    → TakenUp lease h (takes_own asked) (or_zero reading) time
taken_served lease a h reading asked r time append served = taken_by lease a h served.fails (or_zero reading) asked time (sym served.took)
