-- What the table of a tablet decides, and what each of its calls promises.
use Rattle.std.specs.Prelude.{◌≡◌, ℕ, Bool, List, Option, Some, None, Result, IsTrue, IfSome, IfOk, IfErr}
use Rattle.std.specs.List.{AllByRecursion}
use Rattle.docdb_outside.specs.Count.{Rose}
use Rattle.doc_path.specs.Path.{Parts}
use Rattle.txn_data.specs.Time.{takes_time}
use Rattle.txn_data.specs.declared.actor.Actor.{Actor}
use Rattle.txn_data.specs.declared.actor.Actor.TheVariants.{Tablet}
use Rattle.txn_data.specs.declared.append.Append.TheVariants.{Nothing}
use Rattle.txn_data.specs.declared.request.Request.{Request}
use Rattle.txn_data.specs.declared.request.Request.TheVariants as request
use Rattle.txn_data.specs.declared.reply.Reply.{Reply}
use Rattle.txn_data.specs.declared.reply.Reply.TheVariants as reply
use Rattle.txn_data.specs.declared.refusal.Refusal.TheVariants as refusal
use Rattle.txn_data.specs.declared.served.Served.{Served}
use Rattle.txn_data.specs.declared.version.Version.{Version}
use Rattle.txn_types.specs.History.{History}
use Rattle.txn_types.specs.Machine.{reading_used, Advances}
use Rattle.txn_types.specs.Tablet.{Intent}
use Rattle.log_record.specs.declared.log_record.LogRecord.{LogRecord}
use Rattle.log_record.specs.Spelling.{has_spelling}
use Rattle.tablet_log.specs.Frames.{IsRecord}
use Rattle.tablet_log.specs.Replay.{intents_after, versions_after}
use Rattle.leased_log.specs.declared.decision.Decision.{Decision}
use Rattle.leased_log.specs.Replies.{out_of_memory}
use Rattle.leased_log.specs.Stands.{LogState, IsSame}
use Rattle.leased_log.specs.Acts.{HoldsAfter, SameCounts, Acts}
use Rattle.leased_log.specs.Decides.{records_for, IsPlain, IsTold, Decides, Does}
use Rattle.tablet_records.specs.Keeps.{Keeps, PathFits}
use Rattle.tablet_core.specs.declared.undecided.Undecided.{Undecided}
use Rattle.tablet_core.specs.declared.undecided.Undecided.TheVariants.{Down, Memory}
use Rattle.tablet_core.specs.Requests.{IsUpRequest}
use Rattle.tablet_core.specs.Stands.{CoreState, Stands}

-- the table decides so of this request, whatever entries the tablet stands for
pub record Says {V : Type 0} (holds : V → List Version → Type 0) (s : CoreState V) (reading : Option ℕ) (asked : Request) (d : Decision) : Type 0 where
  pub told : IsTold d.reply
  pub decides : (bytes : List ℕ) (faults : ℕ) (h : History) → Stands holds s bytes faults h → Decides s.log.clock.lease (Tablet s.tablet) h reading asked d

-- the record of its own has a spelling, and its path fits
pub record IsLoggable (fits : Parts → Type 0) (d : Decision) : Type 0 where
  pub spelled : IfSome d.own (λ own. IsTrue (has_spelling own))
  pub fit : IfSome d.own (PathFits fits)

-- nothing was decided: the tablet is down since then, or memory ran out
abbrev pub IsUndecided : Option ℕ → Undecided → Type 0
IsUndecided down (Down since) = down ≡ Some since
IsUndecided down Memory = Unit {0}

-- what is decided of a request: it may be logged, and the table decides so; or else why nothing is decided
pub record IsDecided {V : Type 0} (holds : V → List Version → Type 0) (fits : Parts → Type 0) (s : CoreState V) (reading : Option ℕ) (asked : Request) (decided : Result Decision Undecided) : Type 0 where
  pub loggable : IfOk decided (IsLoggable fits)
  pub says : IfOk decided (Says holds s reading asked)
  pub undecided : IfErr decided (IsUndecided s.log.down)

-- what a call keeps: it stays the same tablet with the same leases, its store keeps what it held, and the copy is the reply
pub record StaysItself {V : Type 0} (old new : CoreState V) (s : Served) : Type 0 where
  pub tablet : new.tablet ≡ old.tablet
  pub lease : new.log.clock.lease ≡ old.log.clock.lease
  pub held : HoldsAfter s.append old.log.held new.log.held
  pub copy : s.copy ≡ s.reply

-- nothing changed but the room and the counts of the store
pub record IsUndone {V : Type 0} (holds : V → List Version → Type 0) (old new : CoreState V) : Type 0 where
  pub same : IsSame old.log new.log
  pub tablet : new.tablet ≡ old.tablet
  pub records : (ps : List Intent) (vs : List Version) → Keeps holds old.records ps vs → Keeps holds new.records ps vs

-- where the reply tells of a restart
abbrev pub IfRestarted : Reply → (Bool → Type 0) → Type 0
IfRestarted (reply.Restarted kept) P = P kept
IfRestarted r P = Unit {0}

-- what each call promises: the tablet serves this request by its table, and stands for its entries with this one more; it
-- tells a fault of the log only where its store counted one, of out of memory only where nothing changed, and of a restart only
-- where it was asked for one. Any other request makes no load, and counts no fault where it appends nothing.
pub record ServesBy {V : Type 0} (holds : V → List Version → Type 0) (old new : CoreState V) (from : Actor) (reading : Option ℕ) (asked : Request) (s : Served) : Type 0 where
  pub advances : Advances (Stands holds old) (Stands holds new) old.log.clock.lease (Tablet old.tablet) from reading asked s.reply s
  pub fault : s.reply ≡ reply.Refused refusal.LogFault → Rose old.log.faults new.log.faults
  pub memory : s.reply ≡ reply.Refused refusal.Memory → (s ≡ out_of_memory) × IsUndone holds old new
  pub restart : IfRestarted s.reply (λ kept. asked ≡ request.Restart)
  pub loads : IsPlain asked → new.log.loads ≡ old.log.loads
  pub faults : IsPlain asked → s.append ≡ Nothing → new.log.faults ≡ old.log.faults

-- what the table decides is served by the table
abbrev pub CarriesOut : {V : Type 0} → (V → List Version → Type 0) → CoreState V → CoreState V → Decision → Served → Type 0
CarriesOut holds old new d s =
    (from : Actor) (reading : Option ℕ) (asked : Request) → Says holds old (reading_used (takes_time asked) reading) asked d → ServesBy holds old new from reading asked s

-- a request of the table, of which this was decided, is served by the table
abbrev pub Performs : {V : Type 0} → (V → List Version → Type 0) → CoreState V → CoreState V → Result Decision Undecided → Served → Type 0
Performs holds old new decided s =
    (from : Actor) (reading : Option ℕ) (asked : Request) → IsUpRequest (reading_used (takes_time asked) reading) asked
    → IfOk decided (Says holds old (reading_used (takes_time asked) reading) asked) → ServesBy holds old new from reading asked s

-- the contents once the record of an action's own was taken in, where there is one
abbrev pub intents_with : Option LogRecord → List Intent → List Intent
intents_with None ps = ps
intents_with (Some own) ps = intents_after ps own

abbrev pub versions_with : Option LogRecord → List Version → List Intent → List Version
versions_with None vs ps = vs
versions_with (Some own) vs ps = versions_after vs ps own

-- what was decided is done: its own record is taken in, and the log did it
pub record IsDone {V : Type 0} (holds : V → List Version → Type 0) (old new : CoreState V) (d : Decision) (s : Served) : Type 0 where
  pub middle : LogState
  pub same : IsSame old.log middle
  pub counts : SameCounts old.log middle
  pub spelled : AllByRecursion IsRecord (records_for d)
  pub acts : Acts middle new.log d s
  pub does : Does middle new.log d s
  pub tablet : new.tablet ≡ old.tablet
  pub records : (ps : List Intent) (vs : List Version) → Keeps holds old.records ps vs → Keeps holds new.records (intents_with d.own ps) (versions_with d.own vs ps)
