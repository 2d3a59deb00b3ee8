-- What an actor's table says of a request, as a decision: the reply, the step of the clock, and the record of the action's
-- own that is to be logged.
use Rattle.std.specs.Prelude.{◌≡◌, ℕ, Bool, true, ◌||◌, List, [], ◌∷◌, ◌++◌, Option, Some, None, Ok, is_some, option_to_list}
use Rattle.txn_data.specs.Time.{takes_time}
use Rattle.txn_data.specs.declared.actor.Actor.{Actor}
use Rattle.txn_data.specs.declared.append.Append.TheVariants.{Failed}
use Rattle.txn_data.specs.declared.request.Request.{Request}
use Rattle.txn_data.specs.declared.request.Request.TheVariants as request
use Rattle.txn_data.specs.declared.reply.Reply.{Reply}
use Rattle.txn_data.specs.declared.reply.Reply.TheVariants as reply
use Rattle.txn_data.specs.declared.refusal.Refusal.TheVariants as refusal
use Rattle.txn_data.specs.declared.event.Event.TheVariants.{Serve}
use Rattle.txn_data.specs.declared.entry.Entry.{Entry}
use Rattle.txn_data.specs.declared.served.Served.{Served}
use Rattle.txn_types.specs.History.{History}
use Rattle.txn_types.specs.Lists.{or_zero}
use Rattle.txn_types.specs.Clock.{Answer, logged}
use Rattle.txn_types.specs.Run.{machine_answer, ReadingFits, Serves}
use Rattle.safe_time.specs.declared.step.Step.{Step}
use Rattle.safe_time.specs.ActorClock.{ClockState, served, clock_of}
use Rattle.log_record.specs.declared.log_record.LogRecord.{LogRecord}
use Rattle.log_record.specs.declared.log_record.LogRecord.TheVariants.{Lease}
use Rattle.tablet_log.specs.Entries.{own_record, logged_records}
use Rattle.leased_log.specs.Stands.{LogState, Stands}
use Rattle.leased_log.specs.declared.decision.Decision.{Decision}

abbrev pub time_of : Option Step → Option ℕ
time_of None = None
time_of (Some step) = Some step.time

abbrev pub lease_of : Option Step → Option ℕ
lease_of None = None
lease_of (Some step) = step.lease

abbrev pub lease_records : Option ℕ → List LogRecord
lease_records None = []
lease_records (Some until) = Lease until ∷ []

-- the records that are logged for it, in one append: the lease that its time needs, and then its own
abbrev pub records_of_step : Option Step → Option LogRecord → List LogRecord
records_of_step step own = lease_records (lease_of step) ++ option_to_list own

abbrev pub records_for : Decision → List LogRecord
records_for d = records_of_step d.step d.own

-- there is something to log
abbrev pub logs : Decision → Bool
logs d = is_some d.own || is_some (lease_of d.step)

-- what it answers, where the log takes what is to be logged or fails
abbrev pub answer_of : Bool → Decision → Answer
answer_of fails d = logged fails (logs d) (time_of d.step) d.reply

abbrev pub IsStep : ClockState → Option Step → Type 0
IsStep c None = Unit {0}
IsStep c (Some step) = (reading : ℕ) × (floor : ℕ) × (tick : Bool) × (served c reading floor tick ≡ Ok step)

-- a request that is no restart
abbrev pub IsPlain : Request → Type 0
IsPlain request.Restart = ⊥
IsPlain asked = Unit {0}

-- a reply that tells of no restart, of no fault of the log and of no out of memory
abbrev pub IsTold : Reply → Type 0
IsTold (reply.Restarted kept) = ⊥
IsTold (reply.Refused refusal.LogFault) = ⊥
IsTold (reply.Refused refusal.Memory) = ⊥
IsTold r = Unit {0}

-- the table of an actor decides so, after these entries of its own
pub record Decides (lease : ℕ) (a : Actor) (h : History) (reading : Option ℕ) (asked : Request) (d : Decision) : Type 0 where
  pub plain : IsPlain asked
  pub told : IsTold d.reply
  pub fits : ReadingFits (takes_time asked) reading
  pub says : (fails : Bool) → machine_answer lease a h fails (or_zero reading) asked ≡ answer_of fails d
  pub step : IsStep (clock_of lease h) d.step
  pub own : logs d ≡ true → own_record asked (time_of d.step) ≡ option_to_list d.own

abbrev pub entry : Actor → Option ℕ → Actor → Request → Served → Entry
entry a reading from asked s = record { actor = a; reading = reading; event = Serve from asked s.reply s.time s.append }

-- what was decided is done: the table allows the entry, the log stands for it too, and where no append failed its records
-- are behind those that stood there
pub record Done (a : Actor) (old new : LogState) (bytes : List ℕ) (faults : ℕ) (h : History) (reading : Option ℕ) (from : Actor) (asked : Request) (d : Decision) (s : Served) : Type 0 where
  pub serves : Serves old.clock.lease a h reading asked s.reply s.time s.append
  pub stands : Stands a new bytes faults (entry a reading from asked s ∷ h)
  pub records : (s.append ≡ Failed → ⊥) → logged_records old.clock.lease (entry a reading from asked s ∷ h) ≡ logged_records old.clock.lease h ++ records_for d

abbrev pub Does : LogState → LogState → Decision → Served → Type 0
Does old new d s =
    (a : Actor) (bytes : List ℕ) (faults : ℕ) (h : History) (reading : Option ℕ) (from : Actor) (asked : Request)
    → Stands a old bytes faults h → Decides old.clock.lease a h reading asked d → Done a old new bytes faults h reading from asked d s
