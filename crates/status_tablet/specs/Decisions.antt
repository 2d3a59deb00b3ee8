-- What a status tablet decides of a request: a decision, and what it keeps in no log.
use Rattle.std.specs.Prelude.{◌≡◌, ℕ, Bool, true, List, Option, Some, None, if◌then◌else◌}
use Rattle.std.specs.List.{AllByRecursion}
use Rattle.docdb_outside.specs.Count.{Rose}
use Rattle.txn_data.specs.Time.{takes_time}
use Rattle.txn_data.specs.declared.actor.Actor.{Actor}
use Rattle.txn_data.specs.declared.actor.Actor.TheVariants.{Status}
use Rattle.txn_data.specs.declared.append.Append.{Append}
use Rattle.txn_data.specs.declared.append.Append.TheVariants.{Nothing, Took}
use Rattle.txn_data.specs.declared.request.Request.{Request}
use Rattle.txn_data.specs.declared.request.Request.TheVariants as request
use Rattle.txn_data.specs.declared.reply.Reply.TheVariants as reply
use Rattle.txn_data.specs.declared.refusal.Refusal.TheVariants as refusal
use Rattle.txn_data.specs.declared.served.Served.{Served}
use Rattle.txn_data.specs.declared.event.Event.{Event}
use Rattle.txn_data.specs.declared.event.Event.TheVariants.{Serve}
use Rattle.txn_types.specs.History.{History}
use Rattle.txn_types.specs.Run.{ReadingFits}
use Rattle.txn_types.specs.Machine.{reading_used, Advances}
use Rattle.txn_types.specs.Status.{Record, noted_after, sure_after}
use Rattle.log_record.specs.declared.log_record.LogRecord.{LogRecord}
use Rattle.log_record.specs.Spelling.{has_spelling}
use Rattle.tablet_log.specs.Frames.{IsRecord}
use Rattle.tablet_log.specs.Replay.{record_after}
use Rattle.leased_log.specs.declared.decision.Decision.{Decision}
use Rattle.leased_log.specs.Replies.{out_of_memory}
use Rattle.leased_log.specs.Stands.{LogState, IsSame}
use Rattle.leased_log.specs.Acts.{HoldsAfter, SameCounts, Acts}
use Rattle.leased_log.specs.Decides.{time_of, records_for, logs, IsPlain, IsTold, Decides, Does}
use Rattle.status_tablet.specs.declared.status_decision.StatusDecision.{StatusDecision}
use Rattle.status_tablet.specs.declared.txn_record.TxnRecord.TheVariants as kept
use Rattle.status_tablet.specs.Keeps.{kept_at, kept_of, kept_with, marked}
use Rattle.status_tablet.specs.Stands.{StatusState, Stands}
use Rattle.status_tablet.specs.Restarts.{IfRestarted}

-- the requests of its table
abbrev pub IsStatusRequest : Request → Type 0
IsStatusRequest (request.Begin x isolation priority) = Unit {0}
IsStatusRequest (request.AskFate x t) = Unit {0}
IsStatusRequest (request.Resolve x by priority) = Unit {0}
IsStatusRequest (request.Commit x floor tablets) = Unit {0}
IsStatusRequest (request.Abort x) = Unit {0}
IsStatusRequest (request.Applied x tablet) = Unit {0}
IsStatusRequest request.Restart = Unit {0}
IsStatusRequest asked = ⊥

abbrev pub append_of : Decision → Append
append_of d = if logs d then Took else Nothing

-- the entry that it makes, unless the log fails
abbrev pub event_of : Actor → Request → Decision → Event
event_of from asked d = Serve from asked d.reply (time_of d.step) (append_of d)

abbrev pub record_with : Option LogRecord → ℕ → Record → Record
record_with None x r = r
record_with (Some own) x r = record_after x r own

-- the record of its own has a spelling
abbrev pub is_spelled : Option LogRecord → Bool
is_spelled None = true
is_spelled (Some own) = has_spelling own

-- the records change as the entry has it
abbrev pub Changes : Request → StatusDecision → Type 0
Changes asked decided =
    (from : Actor) (x : ℕ) (r : Record) (ns : List ℕ) (sure : Bool)
    → marked decided.mark x (kept_with decided.decision.own x (kept_of r ns sure))
    ≡ kept_of (record_with decided.decision.own x r) (noted_after x ns (event_of from asked decided.decision)) (sure_after x sure (event_of from asked decided.decision))

-- the table says so of this request, whatever entries the status tablet stands for
pub record Says (s : StatusState) (reading : Option ℕ) (asked : Request) (decided : StatusDecision) : Type 0 where
  pub told : IsTold decided.decision.reply
  pub decides : (bytes : List ℕ) (faults : ℕ) (h : History) → Stands s bytes faults h → Decides s.log.clock.lease (Status s.status) h reading asked decided.decision
  pub changes : Changes asked decided

abbrev pub IsPending : StatusState → ℕ → Type 0
IsPending s x = (priority : ℕ) × (kept_at s.records x ≡ Some (kept.Pending priority))

-- a request of its table other than a restart, with the reading that it takes
abbrev pub IsUpRequest : Option ℕ → Request → Type 0
IsUpRequest reading asked = IsStatusRequest asked × IsPlain asked × ReadingFits (takes_time asked) reading

-- what a call of it keeps: it stays the same status tablet with the same leases, its store keeps what it held, and the copy is
-- the reply
pub record StaysItself (old new : StatusState) (s : Served) : Type 0 where
  pub status : new.status ≡ old.status
  pub lease : new.log.clock.lease ≡ old.log.clock.lease
  pub held : HoldsAfter s.append old.log.held new.log.held
  pub copy : s.copy ≡ s.reply

-- nothing changed but the room and the counts of the store
pub record IsUndone (old new : StatusState) : Type 0 where
  pub same : IsSame old.log new.log
  pub status : new.status ≡ old.status
  pub records : (x : ℕ) → kept_at new.records x ≡ kept_at old.records x

-- what each of its calls promises: the status tablet serves this request by its table, and stands for its entries with this
-- one more; it tells a fault of the log only where its store counted one, out of memory only where nothing changed, and of a
-- restart only where it was asked for one. Any other request makes no load, and counts no fault where it appends nothing.
pub record ServesBy (old new : StatusState) (from : Actor) (reading : Option ℕ) (asked : Request) (s : Served) : Type 0 where
  pub advances : Advances (Stands old) (Stands new) old.log.clock.lease (Status old.status) from reading asked s.reply s
  pub fault : s.reply ≡ reply.Refused refusal.LogFault → Rose old.log.faults new.log.faults
  pub memory : s.reply ≡ reply.Refused refusal.Memory → (s ≡ out_of_memory) × IsUndone old new
  pub restart : IfRestarted s.reply (λ kept. asked ≡ request.Restart)
  pub loads : IsPlain asked → new.log.loads ≡ old.log.loads
  pub faults : IsPlain asked → s.append ≡ Nothing → new.log.faults ≡ old.log.faults

-- a decision that the table says is served by the table
abbrev pub CarriesOut : StatusState → StatusState → StatusDecision → Served → Type 0
CarriesOut old new decided s =
    (from : Actor) (reading : Option ℕ) (asked : Request) → Says old (reading_used (takes_time asked) reading) asked decided → ServesBy old new from reading asked s

-- so is a decision that the table says while the status tablet is up, of a request that is no restart
abbrev pub Performs : StatusState → StatusState → StatusDecision → Served → Type 0
Performs old new decided s =
    (from : Actor) (reading : Option ℕ) (asked : Request) → IsUpRequest (reading_used (takes_time asked) reading) asked
    → (old.log.down ≡ None → Says old (reading_used (takes_time asked) reading) asked decided) → ServesBy old new from reading asked s

-- the records are ready for the action: its own record and its mark are taken in
pub record IsDone (old new : StatusState) (decided : StatusDecision) (s : Served) : Type 0 where
  pub middle : LogState
  pub same : IsSame old.log middle
  pub counts : SameCounts old.log middle
  pub spelled : AllByRecursion IsRecord (records_for decided.decision)
  pub acts : Acts middle new.log decided.decision s
  pub does : Does middle new.log decided.decision s
  pub status : new.status ≡ old.status
  pub records : (x : ℕ) → kept_at new.records x ≡ marked decided.mark x (kept_with decided.decision.own x (kept_at old.records x))
