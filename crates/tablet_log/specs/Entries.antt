-- Which records an entry of an actor logs. Histories have the newest entry first; records stand in the order of the log.
use Rattle.std.specs.Prelude.{ℕ, ◌+◌, List, [], ◌∷◌, ◌++◌, Option, Some, None, if◌then◌else◌}
use Rattle.hybrid_time.specs.Time.{micros_of}
use Rattle.txn_data.specs.declared.append.Append.{Append}
use Rattle.txn_data.specs.declared.append.Append.TheVariants.{Nothing, Took, Failed}
use Rattle.txn_data.specs.declared.request.Request.{Request}
use Rattle.txn_data.specs.declared.request.Request.TheVariants as request
use Rattle.txn_data.specs.declared.event.Event.{Event}
use Rattle.txn_data.specs.declared.event.Event.TheVariants.{Serve, Restarted}
use Rattle.txn_types.specs.History.{History, counting}
use Rattle.txn_types.specs.Clock.{lease_due, lease_over, lease_end}
use Rattle.log_record.specs.declared.log_record.LogRecord.{LogRecord}
use Rattle.log_record.specs.declared.log_record.LogRecord.TheVariants.{Lease, Write, Apply, Clean, Single, Begin, Commit, Abort, Forget}

-- the record of an action's own, from its request and the time that it took; an Apply has the commit time that it was asked for
abbrev pub own_record : Request → Option ℕ → List LogRecord
own_record (request.Write meta number path op read seen fates) (Some w) = Write meta number w path op ∷ []
own_record (request.Single x path op seen fates) (Some c) = Single x c path op ∷ []
own_record (request.Apply x at) time = Apply x at ∷ []
own_record (request.Clean x) time = Clean x ∷ []
own_record (request.Begin x isolation priority) time = Begin x isolation priority ∷ []
own_record (request.Resolve x by priority) time = Abort x (Some by) ∷ []
own_record (request.Commit x floor tablets) (Some c) = Commit x c tablets ∷ []
own_record (request.Abort x) time = Abort x None ∷ []
own_record (request.Applied x tablet) time = Forget x ∷ []
own_record asked time = []

-- the lease that a time needs, where the log holds a lease with this end or none; by the tables none is due where nothing
-- is appended
abbrev pub lease_record : ℕ → Option ℕ → Option ℕ → List LogRecord
lease_record lease end None = []
lease_record lease end (Some time) = if lease_due end time then Lease (micros_of time + lease) ∷ [] else []

-- nothing where there was nothing to log
abbrev pub if_appended : Append → List LogRecord → List LogRecord
if_appended Nothing records = []
if_appended Took records = records
if_appended Failed records = records

-- the lease where one is due, and then the record of the action's own; also where the append failed
abbrev pub records_of : ℕ → Option ℕ → Event → List LogRecord
records_of lease end (Serve from asked r time append) = lease_record lease end time ++ if_appended append (own_record asked time)
records_of lease end event = []

-- the records of entries that count, in the order in which they were logged
unfoldable pub logged_over : ℕ → History → List LogRecord
logged_over lease [] = []
logged_over lease (e ∷ h) = logged_over lease h ++ records_of lease (lease_over lease h) e.event

abbrev pub logged_records : ℕ → History → List LogRecord
logged_records lease h = logged_over lease (counting h)

-- the records of the append that failed, where no restart came since
abbrev pub failed_after : ℕ → History → List LogRecord → Event → List LogRecord
failed_after lease h before (Serve from asked r time Failed) = records_of lease (lease_end lease h) (Serve from asked r time Failed)
failed_after lease h before (Restarted from kept) = []
failed_after lease h before event = before

unfoldable pub failed_records : ℕ → History → List LogRecord
failed_records lease [] = []
failed_records lease (e ∷ h) = failed_after lease h (failed_records lease h) e.event
