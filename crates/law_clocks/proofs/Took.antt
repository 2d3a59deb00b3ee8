-- Where a machine takes a time, its lease does not hold, and the time is the one of its clock.
use Rattle.std.proofs.Common.{◌≡◌, ℕ, ◌+◌, ◌<◌, ◌≤◌, max, Bool, true, false, ◌∷◌, Option, Some, None, Result, Ok, Err, nat_lt, nat_eq, refl, sym, ◌∙◌, if◌then◌else◌, arith}
use Rattle.std.proofs.lemmas.Bool.{ltb-true, ltb-false}
use Rattle.hybrid_time.specs.Time.{next_time, least_time, time_after, time_at, micros_of, logical_of, greatest_reading}
use Rattle.hybrid_time.specs.declared.time_refusal.TimeRefusal.{TimeRefusal}
use Rattle.hybrid_time.specs.declared.time_refusal.TimeRefusal.TheVariants.{ClockFull, ClockRange}
use Rattle.txn_data.specs.declared.actor.Actor.{Actor}
use Rattle.txn_data.specs.declared.actor.Actor.TheVariants.{Tablet}
use Rattle.txn_data.specs.declared.append.Append.{Append}
use Rattle.txn_data.specs.declared.request.Request.{Request}
use Rattle.txn_data.specs.declared.request.Request.TheVariants as request
use Rattle.txn_data.specs.declared.reply.Reply.{Reply}
use Rattle.txn_data.specs.declared.reply.Reply.TheVariants as reply
use Rattle.txn_data.specs.declared.refusal.Refusal.TheVariants as refusal
use Rattle.txn_types.specs.Lists.{or_zero}
use Rattle.txn_types.specs.History.{History}
use Rattle.txn_types.specs.Clock.{Answer, told_only, refusal_answer, logged, timed, timed_answer, holds, clock_time, Kind, Own, Floor, lease_due, lease_end, last_time, has_given, down_since}
use Rattle.txn_types.specs.Tablet.{tablet_answer, tablet_up, tablet_standing, write_answer, has_any, provisional, conflict, greatest_above, related_commits, versions, greatest_fate}
use Rattle.txn_types.specs.Status.{status_answer, status_up, status_standing, record_of, commit_answer, Record, NoRecord, Pending, Committed, AbortedBy, abort_answer, resolved, may_forget, is_sure, noted}
use Rattle.txn_types.specs.Run.{Serves, machine_answer}
use Rattle.law_clocks.specs.Laws.{kind_of, floor_of}

-- ## the clock

chosen_after : (t u : Bool) (b r c : ℕ) → nat_lt (micros_of b) r ≡ t →
    (if t then Ok (time_at r 0) else (if u then Err (ClockFull b) else Ok (b + 1))) ≡ Ok c → (b < c) × (time_at r 0 ≤ c)
chosen_after true u b r c lt is =
    let e : time_at r 0 ≡ c = cc in let l : micros_of b < r = ltb-true (micros_of b) r lt in (omega arith, omega arith)
chosen_after false true b r c lt is = cc
chosen_after false false b r c lt is =
    let e : b + 1 ≡ c = cc in let l : r ≤ micros_of b = ltb-false (micros_of b) r lt in (omega arith, omega arith)

chosen_next : (t : Bool) (b r c : ℕ) → (if t then Err (ClockRange r) else time_after b r) ≡ Ok c → (b < c) × (time_at r 0 ≤ c)
chosen_next true b r c is = cc
chosen_next false b r c is = chosen_after (nat_lt (micros_of b) r) (nat_eq (logical_of b) 4095) b r c refl is

pub next_above : (last floor r c : ℕ) → next_time last floor r ≡ Ok c → (last < c) × (floor < c) × (time_at r 0 ≤ c)
next_above last floor r c is =
    let l = chosen_next (nat_lt greatest_reading r) (max last floor) r c is in
    let m : max last floor < c = l.0 in (omega arith, omega arith, l.1)

pub chosen_least : (t : Bool) (m r c : ℕ) → (if t then Err (ClockRange r) else Ok m) ≡ Ok c → m ≡ c
chosen_least true m r c is = cc
chosen_least false m r c is = cc

pub least_above : (last floor r c : ℕ) → least_time last floor r ≡ Ok c → (last ≤ c) × (floor ≤ c) × (time_at r 0 ≤ c)
least_above last floor r c is =
    let e : max (max last floor) (time_at r 0) ≡ c = chosen_least (nat_lt greatest_reading r) (max (max last floor) (time_at r 0)) r c is in
    (omega arith, omega arith, omega arith)

-- a time of a clock is past its last one and its floor, and not below the reading
pub record Given (kind : Kind) (last floor r c : ℕ) : Type 0 where
  pub last_below : last ≤ c
  pub last_past : kind ≡ Own → last < c
  pub floor_below : floor ≤ c
  pub floor_past : kind ≡ Own → floor < c
  pub read : time_at r 0 ≤ c

pub given : (kind : Kind) (last floor r c : ℕ) → clock_time kind last floor r ≡ Ok c → Given kind last floor r c
given Own last floor r c is = let l = next_above last floor r c is in record {
  last_below = omega (arith, l.0);
  last_past = λ k. l.0;
  floor_below = omega (arith, l.1);
  floor_past = λ k. l.1;
  read = l.2;
}
given Floor last floor r c is = let l = least_above last floor r c is in record {
  last_below = l.0;
  last_past = λ k. cc;
  floor_below = l.1;
  floor_past = λ k. cc;
  read = l.2;
}

-- ## what a machine that takes a time has seen to

pub record TookTime (lease : ℕ) (o : History) (kind : Kind) (floor r y : ℕ) : Type 0 where
  pub free : holds (lease_end lease o) (has_given o) r ≡ false
  pub clock : clock_time kind (last_time o) floor r ≡ Ok y

pub logged_time : (fails due : Bool) (time : Option ℕ) (r : Reply) → (logged fails due time r).time ≡ time
logged_time fails false time r = refl
logged_time false true time r = refl
logged_time true true time r = refl

took_answer : (lease : ℕ) (end : Option ℕ) (fails records : Bool) (time : Result ℕ TimeRefusal) (r : ℕ → Reply) (y : ℕ) → (timed_answer lease end fails records time r).time ≡ Some y → time ≡ Ok y
took_answer lease end fails records (Err e) r y is = cc
took_answer lease end fails true (Ok t) r y is = let e : Some t ≡ Some y = sym (logged_time fails true (Some t) (r t)) ∙ is in cc
took_answer lease end fails false (Ok t) r y is = let e : Some t ≡ Some y = sym (logged_time fails (lease_due end t) (Some t) (r t)) ∙ is in cc

took_chosen : (b : Bool) (at lease : ℕ) (end : Option ℕ) (fails records : Bool) (time : Result ℕ TimeRefusal) (r : ℕ → Reply) (y : ℕ) →
    (if b then refusal_answer (refusal.LeaseHeld at) else timed_answer lease end fails records time r).time ≡ Some y → (b ≡ false) × (time ≡ Ok y)
took_chosen true at lease end fails records time r y is = cc
took_chosen false at lease end fails records time r y is = (refl, took_answer lease end fails records time r y is)

pub took_timed : (lease : ℕ) (o : History) (fails : Bool) (kind : Kind) (floor reading : ℕ) (records : Bool) (r : ℕ → Reply) (y : ℕ) →
    (timed lease o fails kind floor reading records r).time ≡ Some y → TookTime lease o kind floor reading y
took_timed lease o fails kind floor reading records r y is =
    let t = took_chosen (holds (lease_end lease o) (has_given o) reading) (or_zero (lease_end lease o)) lease (lease_end lease o) fails records (clock_time kind (last_time o) floor reading) r y is in
    record { free = t.0; clock = t.1 }

took_write : (c v : Option ℕ) (done : Answer) (y : ℕ) → (write_answer c v done).time ≡ Some y → done.time ≡ Some y
took_write (Some other) v done y is = cc
took_write None (Some at) done y is = cc
took_write None None done y is = is

took_apply : (b : Bool) (done : Answer) (y : ℕ) → (if b then done else told_only reply.AppliedHere).time ≡ Some y → done.time ≡ Some y
took_apply true done y is = is
took_apply false done y is = cc

took_none : {P : Type 0} (fails due : Bool) (r : Reply) (y : ℕ) → (logged fails due None r).time ≡ Some y → P
took_none fails due r y is = let e : None ≡ Some y = sym (logged_time fails due None r) ∙ is in cc

took_up : (lease : ℕ) (o : History) (fails : Bool) (reading : ℕ) (asked : Request) (y : ℕ) → (tablet_up lease o fails reading asked).time ≡ Some y →
    TookTime lease o (kind_of asked) (floor_of asked) reading y
took_up lease o fails reading (request.Write meta number path op read seen fates) y is =
    took_timed lease o fails Own seen reading true (λ w. reply.Written w) y
    (took_write (conflict meta.txn path fates (provisional o)) (greatest_above read (related_commits meta.txn path fates (provisional o) (versions o)))
    (timed lease o fails Own seen reading true (λ w. reply.Written w)) y is)
took_up lease o fails reading (request.Single x path op seen fates) y is =
    took_timed lease o fails Own (max seen (greatest_fate fates fates)) reading true (λ c. reply.SingleDone c) y
    (took_write (conflict x path fates (provisional o)) None (timed lease o fails Own (max seen (greatest_fate fates fates)) reading true (λ c. reply.SingleDone c)) y is)
took_up lease o fails reading (request.ListRead own_txn paths t g limit) y is = took_timed lease o fails Floor t reading false _ y is
took_up lease o fails reading (request.Apply x at) y is =
    took_timed lease o fails Floor at reading true (λ now. reply.AppliedHere) y
    (took_apply (has_any x (provisional o)) (timed lease o fails Floor at reading true (λ now. reply.AppliedHere)) y is)
took_up lease o fails reading (request.Clean x) y is = took_none fails (has_any x (provisional o)) reply.Cleaned y is
took_up lease o fails reading asked y is = cc

took_commit : (r : Record) (done : Answer) (y : ℕ) → (commit_answer r done).time ≡ Some y → done.time ≡ Some y
took_commit (Pending priority) done y is = is
took_commit (Committed c tablets) done y is = cc
took_commit (AbortedBy by) done y is = cc
took_commit NoRecord done y is = cc

took_abort : {P : Type 0} (fails : Bool) (r : Record) (y : ℕ) → (abort_answer fails r).time ≡ Some y → P
took_abort fails (Committed c tablets) y is = cc
took_abort fails (Pending priority) y is = took_none fails true reply.Ended y is
took_abort fails (AbortedBy by) y is = took_none fails true reply.Ended y is
took_abort fails NoRecord y is = cc

took_lower : {P : Type 0} (b fails : Bool) (aborted pending : Reply) (y : ℕ) → (if b then logged fails true None aborted else told_only pending).time ≡ Some y → P
took_lower true fails aborted pending y is = took_none fails true aborted y is
took_lower false fails aborted pending y is = cc

took_resolved : {P : Type 0} (fails : Bool) (priority : ℕ) (r : Record) (y : ℕ) → (resolved fails priority r).time ≡ Some y → P
took_resolved fails priority (Pending own) y is = took_lower (nat_lt own priority) fails _ _ y is
took_resolved fails priority (Committed c tablets) y is = cc
took_resolved fails priority (AbortedBy by) y is = cc
took_resolved fails priority NoRecord y is = cc

took_status_up : (lease : ℕ) (o : History) (fails : Bool) (reading : ℕ) (asked : Request) (y : ℕ) → (status_up lease o fails reading asked).time ≡ Some y →
    TookTime lease o (kind_of asked) (floor_of asked) reading y
took_status_up lease o fails reading (request.Begin x isolation priority) y is = took_none fails true reply.Begun y is
took_status_up lease o fails reading (request.AskFate x t) y is = took_timed lease o fails Floor t reading false _ y is
took_status_up lease o fails reading (request.Resolve x by priority) y is = took_resolved fails priority (record_of x o) y is
took_status_up lease o fails reading (request.Commit x floor tablets) y is =
    took_timed lease o fails Own floor reading true (λ c. reply.Committed c) y
    (took_commit (record_of x o) (timed lease o fails Own floor reading true (λ c. reply.Committed c)) y is)
took_status_up lease o fails reading (request.Abort x) y is = took_abort fails (record_of x o) y is
took_status_up lease o fails reading (request.Applied x tablet) y is = took_none fails (may_forget (is_sure x o) (tablet ∷ noted x o) (record_of x o)) reply.Noted y is
took_status_up lease o fails reading asked y is = cc

-- it is up
took_standing : (d : Option ℕ) (up : Answer) (y : ℕ) → (tablet_standing d up).time ≡ Some y → (d ≡ None) × (up.time ≡ Some y)
took_standing (Some n) up y is = cc
took_standing None up y is = (refl, is)

took_status_standing : (d : Option ℕ) (up : Answer) (y : ℕ) → (status_standing d up).time ≡ Some y → (d ≡ None) × (up.time ≡ Some y)
took_status_standing (Some n) up y is = cc
took_status_standing None up y is = (refl, is)

pub record TookUp (lease : ℕ) (o : History) (asked : Request) (r y : ℕ) : Type 0 where
  pub up : down_since o ≡ None
  pub took : TookTime lease o (kind_of asked) (floor_of asked) r y

took_tablet : (lease : ℕ) (o : History) (fails : Bool) (reading : ℕ) (asked : Request) (y : ℕ) → (tablet_answer lease o fails reading asked).time ≡ Some y → TookUp lease o asked reading y
took_tablet lease o fails reading request.Restart y is = cc
took_tablet lease o fails reading asked y is =
    let s = took_standing (down_since o) (tablet_up lease o fails reading asked) y is in
    record { up = s.0; took = took_up lease o fails reading asked y s.1 }

took_status : (lease : ℕ) (o : History) (fails : Bool) (reading : ℕ) (asked : Request) (y : ℕ) → (status_answer lease o fails reading asked).time ≡ Some y → TookUp lease o asked reading y
took_status lease o fails reading request.Restart y is = cc
took_status lease o fails reading asked y is =
    let s = took_status_standing (down_since o) (status_up lease o fails reading asked) y is in
    record { up = s.0; took = took_status_up lease o fails reading asked y s.1 }

took_machine : (lease : ℕ) (a : Actor) (o : History) (fails : Bool) (reading : ℕ) (asked : Request) (y : ℕ) → (machine_answer lease a o fails reading asked).time ≡ Some y → TookUp lease o asked reading y
took_machine lease (Tablet k) o fails reading asked y is = took_tablet lease o fails reading asked y is
took_machine lease a o fails reading asked y is = took_status lease o fails reading asked y is

-- what a machine sees to where it takes a time
pub took : (lease : ℕ) (a : Actor) (o : History) (reading : Option ℕ) (asked : Request) (r : Reply) (y : ℕ) (append : Append) → Serves lease a o reading asked r (Some y) append →
    TookUp lease o asked (or_zero reading) y
took lease a o reading asked r y append served = took_machine lease a o served.fails (or_zero reading) asked y (sym served.took)
