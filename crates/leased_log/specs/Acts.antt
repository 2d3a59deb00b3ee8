-- What an action does to the log of an actor, by what becomes of its append.
use Rattle.std.specs.Prelude.{◌≡◌, ◌+◌, ◌-◌, ◌^◌, ◌≤◌, ◌⊎◌, false, true, ℕ, List, ◌++◌, length, min, Option, Some, None}
use Rattle.std.specs.List.{AllByRecursion}
use Rattle.docdb_outside.specs.Count.{Rose}
use Rattle.txn_data.specs.declared.append.Append.{Append}
use Rattle.txn_data.specs.declared.append.Append.TheVariants.{Nothing, Took, Failed}
use Rattle.txn_data.specs.declared.reply.Reply.{Reply}
use Rattle.txn_data.specs.declared.reply.Reply.TheVariants as reply
use Rattle.txn_data.specs.declared.refusal.Refusal.TheVariants as refusal
use Rattle.txn_data.specs.declared.served.Served.{Served}
use Rattle.safe_time.specs.declared.step.Step.{Step}
use Rattle.safe_time.specs.ActorClock.{ClockState, taken}
use Rattle.log_record.specs.declared.log_record.LogRecord.{LogRecord}
use Rattle.tablet_log.specs.Frames.{IsRecord, frames}
use Rattle.leased_log.specs.Stands.{LogState}
use Rattle.leased_log.specs.Decides.{time_of, records_for, logs}
use Rattle.leased_log.specs.declared.decision.Decision.{Decision}

-- the clock once the time of the step was given
abbrev pub clock_after : ClockState → Option Step → ClockState
clock_after c None = c
clock_after c (Some step) = taken c step

-- the frames of some records came behind the bytes that were held
pub record IsAppended (before after : List ℕ) : Type 0 where
  pub records : List LogRecord
  pub spelled : AllByRecursion IsRecord records
  pub is : after ≡ before ++ frames records

-- what a store holds after an action, by what became of its append: what it held, with the records behind it where they were
-- taken; where the append failed, with all of them or none
abbrev pub HoldsAfter : Append → List ℕ → List ℕ → Type 0
HoldsAfter Nothing before after = after ≡ before
HoldsAfter Took before after = IsAppended before after
HoldsAfter Failed before after = (after ≡ before) ⊎ IsAppended before after

-- the counts of the store are the same
pub record SameCounts (old new : LogState) : Type 0 where
  pub faults : new.faults ≡ old.faults
  pub loads : new.loads ≡ old.loads

-- there was nothing to log
pub record Tells (old new : LogState) (d : Decision) : Type 0 where
  pub quiet : logs d ≡ false
  pub held : new.held ≡ old.held
  pub faults : new.faults ≡ old.faults
  pub loads : new.loads ≡ old.loads
  pub clock : new.clock ≡ clock_after old.clock d.step
  pub actions : new.actions ≡ old.actions + 1
  pub down : new.down ≡ old.down
  pub records : new.records ≡ old.records

-- the store took the frames
pub record Logs (old new : LogState) (d : Decision) : Type 0 where
  pub logs : logs d ≡ true
  pub held : new.held ≡ old.held ++ frames (records_for d)
  pub faults : old.faults ≤ new.faults
  pub loads : new.loads ≡ old.loads
  pub clock : new.clock ≡ clock_after old.clock d.step
  pub actions : new.actions ≡ old.actions + 1
  pub down : new.down ≡ old.down
  pub records : new.records ≡ min (old.records + length (records_for d)) (2 ^ 64 - 1)

-- the store failed: it holds all the frames or none, and the actor is down
pub record Faults (old new : LogState) (d : Decision) : Type 0 where
  pub logs : logs d ≡ true
  pub held : (new.held ≡ old.held) ⊎ (new.held ≡ old.held ++ frames (records_for d))
  pub faults : Rose old.faults new.faults
  pub loads : new.loads ≡ old.loads
  pub clock : new.clock ≡ old.clock
  pub actions : new.actions ≡ old.actions + 1
  pub down : new.down ≡ Some (old.actions + 1)
  pub records : new.records ≡ old.records

abbrev pub ActsBy : Append → LogState → LogState → Decision → Type 0
ActsBy Nothing old new d = Tells old new d
ActsBy Took old new d = Logs old new d
ActsBy Failed old new d = Faults old new d

-- the reply that was decided, unless the log failed
abbrev pub reply_by : Append → Reply → Reply
reply_by Failed r = reply.Refused refusal.LogFault
reply_by append r = r

pub record Acts (old new : LogState) (d : Decision) (s : Served) : Type 0 where
  pub reply : s.reply ≡ reply_by s.append d.reply
  pub copy : s.copy ≡ s.reply
  pub time : s.time ≡ time_of d.step
  pub by : ActsBy s.append old new d
