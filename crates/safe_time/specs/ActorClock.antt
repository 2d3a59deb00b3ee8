-- The clock of a tablet or status tablet with its lease, as contracts see it. Its rules are those of the actors' tables.
use Rattle.std.specs.Prelude.{ℕ, Bool, true, false, Option, Some, None, max, Result, Ok, Err, ◌+◌, ◌||◌, is_some, if◌then◌else◌}
use Rattle.hybrid_time.specs.Time.{micros_of}
use Rattle.hybrid_time.specs.declared.time_refusal.TimeRefusal.{TimeRefusal}
use Rattle.txn_data.specs.declared.reply.Reply.{Reply}
use Rattle.txn_data.specs.declared.refusal.Refusal.{Refusal}
use Rattle.txn_data.specs.declared.refusal.Refusal.TheVariants as refusal
use Rattle.txn_types.specs.Lists.{or_else, or_zero}
use Rattle.txn_types.specs.History.{History}
use Rattle.txn_types.specs.Clock.{Answer, Kind, Own, Floor, clock_time, holds, lease_due, last_time, has_given, lease_end, refusal_answer, logged}
use Rattle.safe_time.specs.Refusals.{refused_by}
use Rattle.safe_time.specs.declared.step.Step.{Step}
use Rattle.safe_time.specs.declared.clock_refusal.ClockRefusal.{ClockRefusal}
use Rattle.safe_time.specs.declared.clock_refusal.ClockRefusal.TheVariants.{LeaseHeld, ClockRange, ClockFull}

pub record ClockState : Type 0 where
  -- how many microseconds a lease lasts
  pub lease : ℕ
  -- the greatest time given since the last restart, or 0
  pub last : ℕ
  -- whether a time was given since the last restart
  pub given : Bool
  -- the end of the last logged lease, in microseconds
  pub until : Option ℕ

-- a clock that gave no time, of an actor that logged nothing
abbrev pub at_first : ℕ → ClockState
at_first lease = record { lease = lease; last = 0; given = false; until = None }

-- a time of its own where it ticks, else one that is not below the floor
abbrev pub kind_of : Bool → Kind
kind_of true = Own
kind_of false = Floor

-- the end of the lease that has to be logged before this time is given, where one has to be
abbrev pub lease_for : ClockState → ℕ → Option ℕ
lease_for c time = if lease_due c.until time then Some (micros_of time + c.lease) else None

abbrev pub step_of : ClockState → Result ℕ TimeRefusal → Result Step ClockRefusal
step_of c (Ok time) = Ok (record { time = time; lease = lease_for c time })
step_of c (Err e) = Err (refused_by e)

-- the next step: refused where the lease holds, else as the clock gives a time
abbrev pub served : ClockState → ℕ → ℕ → Bool → Result Step ClockRefusal
served c reading floor tick =
    if holds c.until c.given reading then Err (LeaseHeld (or_zero c.until))
    else step_of c (clock_time (kind_of tick) c.last floor reading)

-- after a step whose time was given
abbrev pub taken : ClockState → Step → ClockState
taken c step = record { lease = c.lease; last = max c.last step.time; given = true; until = or_else step.lease c.until }

-- after a restart, where the log holds this end of a lease
abbrev pub restarted : ClockState → Option ℕ → ClockState
restarted c until = record { lease = c.lease; last = 0; given = false; until = until }

-- ---- the clock of an actor by its table

-- after these entries of the actor's own
abbrev pub clock_of : ℕ → History → ClockState
clock_of lease h = record { lease = lease; last = last_time h; given = has_given h; until = lease_end lease h }

abbrev pub refusal_of : ClockRefusal → Refusal
refusal_of (LeaseHeld until) = refusal.LeaseHeld until
refusal_of (ClockRange reading) = refusal.ClockRange reading
refusal_of (ClockFull at) = refusal.ClockFull at

-- what an action answers over a step: whether it has a record of its own, and what it replies at a time
abbrev pub answer_over : Bool → Bool → (ℕ → Reply) → Result Step ClockRefusal → Answer
answer_over fails records r (Err e) = refusal_answer (refusal_of e)
answer_over fails records r (Ok step) = logged fails (records || is_some step.lease) (Some step.time) (r step.time)
