-- The clock of a tablet or status tablet, read off its own entries: its last time, its lease, and whether it is down.
use Rattle.std.specs.Prelude.{ℕ, ◌+◌, Bool, true, false, ◌&&◌, not, [], ◌∷◌, Option, Some, None, length, max, nat_lt, nat_le, if◌then◌else◌, Result, Ok, Err}
use Rattle.hybrid_time.specs.Time.{micros_of, next_time, least_time}
use Rattle.hybrid_time.specs.declared.time_refusal.TimeRefusal.{TimeRefusal}
use Rattle.hybrid_time.specs.declared.time_refusal.TimeRefusal.TheVariants as time_refusal
use Rattle.txn_data.specs.declared.append.Append.{Append}
use Rattle.txn_data.specs.declared.append.Append.TheVariants.{Nothing, Took, Failed}
use Rattle.txn_data.specs.declared.request.Request.TheVariants as request
use Rattle.txn_data.specs.declared.reply.Reply.{Reply}
use Rattle.txn_data.specs.declared.reply.Reply.TheVariants as reply
use Rattle.txn_data.specs.declared.refusal.Refusal.{Refusal}
use Rattle.txn_data.specs.declared.refusal.Refusal.TheVariants as refusal
use Rattle.txn_data.specs.declared.event.Event.{Event}
use Rattle.txn_data.specs.declared.event.Event.TheVariants.{Serve, Restarted}
use Rattle.txn_types.specs.Lists.{or_else, or_zero}
use Rattle.txn_types.specs.History.{History, counting}

-- the greatest time given since the last restart, or 0
abbrev pub last_after : ℕ → Event → ℕ
last_after last (Serve from asked answer (Some time) append) = max last time
last_after last (Restarted from kept) = 0
last_after last _ = last

unfoldable pub last_time : History → ℕ
last_time [] = 0
last_time (e ∷ h) = last_after (last_time h) e.event

-- whether a time was given since the last restart
abbrev pub given_after : Bool → Event → Bool
given_after given (Serve from asked answer (Some time) append) = true
given_after given (Restarted from kept) = false
given_after given _ = given

unfoldable pub has_given : History → Bool
has_given [] = false
has_given (e ∷ h) = given_after (has_given h) e.event

-- whether a lease has to be logged before this time is given: there is none, or it has ended
abbrev pub lease_due : Option ℕ → ℕ → Bool
lease_due None time = true
lease_due (Some end) time = nat_lt end (micros_of time)

-- the end of the lease, in microseconds, once this time is logged
abbrev pub lease_with : ℕ → Option ℕ → ℕ → Option ℕ
lease_with lease end time = if lease_due end time then Some (micros_of time + lease) else end

abbrev pub lease_after : ℕ → Option ℕ → Event → Option ℕ
lease_after lease end (Serve from asked answer (Some time) append) = lease_with lease end time
lease_after lease end _ = end

unfoldable pub lease_over : ℕ → History → Option ℕ
lease_over lease [] = None
lease_over lease (e ∷ h) = lease_after lease (lease_over lease h) e.event

-- the end of the last logged lease, in microseconds: each entry that counts and has a time raises it where it is due
abbrev pub lease_end : ℕ → History → Option ℕ
lease_end lease h = lease_over lease (counting h)

-- whether an append failed since the last restart
abbrev pub failed_after : Bool → Event → Bool
failed_after failed (Serve from asked answer time Failed) = true
failed_after failed (Restarted from kept) = false
failed_after failed _ = failed

unfoldable pub has_failed : History → Bool
has_failed [] = false
has_failed (e ∷ h) = failed_after (has_failed h) e.event

-- the number, from 1, of the first entry since the last restart whose append or load failed; an entry that serves a
-- Restart is a load that failed
abbrev pub down_after : Option ℕ → ℕ → Event → Option ℕ
down_after down number (Serve from asked answer time Failed) = or_else down (Some number)
down_after down number (Serve from request.Restart answer time append) = or_else down (Some number)
down_after down number (Restarted from kept) = None
down_after down number _ = down

unfoldable pub down_since : History → Option ℕ
down_since [] = None
down_since (e ∷ h) = down_after (down_since h) (length (e ∷ h)) e.event

-- what an actor answers: the reply, the time that it takes, and what becomes of the append
pub record Answer : Type 0 where
  pub reply : Reply
  pub time : Option ℕ
  pub append : Append

abbrev pub told_only : Reply → Answer
told_only r = record { reply = r; time = None; append = Nothing }

abbrev pub refusal_answer : Refusal → Answer
refusal_answer r = told_only (reply.Refused r)

-- the answer of an action that has something to log or not, where the log fails or not
abbrev pub logged : Bool → Bool → Option ℕ → Reply → Answer
logged fails false time r = record { reply = r; time = time; append = Nothing }
logged false true time r = record { reply = r; time = time; append = Took }
logged true true time r = record { reply = reply.Refused refusal.LogFault; time = time; append = Failed }

-- the times of an actor's clock: whether it takes one of its own, or one that is not below the floor
pub data Kind : Type 0 where
  Own : Kind
  Floor : Kind

abbrev pub clock_time : Kind → ℕ → ℕ → ℕ → Result ℕ TimeRefusal
clock_time Own last floor reading = next_time last floor reading
clock_time Floor last floor reading = least_time last floor reading

abbrev pub time_refused : TimeRefusal → Refusal
time_refused (time_refusal.ClockFull at) = refusal.ClockFull at
time_refused (time_refusal.ClockRange reading) = refusal.ClockRange reading

-- after a restart the end of the lease holds until the reading is above it
abbrev pub holds : Option ℕ → Bool → ℕ → Bool
holds None given reading = false
holds (Some end) given reading = not given && nat_le reading end

abbrev pub timed_answer : ℕ → Option ℕ → Bool → Bool → Result ℕ TimeRefusal → (ℕ → Reply) → Answer
timed_answer lease end fails records (Err e) r = refusal_answer (time_refused e)
timed_answer lease end fails true (Ok time) r = logged fails true (Some time) (r time)
timed_answer lease end fails false (Ok time) r = logged fails (lease_due end time) (Some time) (r time)

-- an action that takes a time: refused where the lease holds or the clock gives none; else it takes the time, and logs
-- where it has a record of its own, or where a lease is due
abbrev pub timed : ℕ → History → Bool → Kind → ℕ → ℕ → Bool → (ℕ → Reply) → Answer
timed lease h fails kind floor reading records r =
    let end = lease_end lease h in
    if holds end (has_given h) reading then refusal_answer (refusal.LeaseHeld (or_zero end))
    else timed_answer lease end fails records (clock_time kind (last_time h) floor reading) r
