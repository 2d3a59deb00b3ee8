-- What the writes of a transaction, its commit and its abort are answered in every run.
use Rattle.std.specs.Prelude.{◌≡◌, ℕ, Option, Some, None, ◌⊎◌}
use Rattle.txn_data.specs.declared.append.Append.{Append}
use Rattle.txn_data.specs.declared.append.Append.TheVariants.{Nothing, Took, Failed}
use Rattle.txn_data.specs.declared.config.Config.{Config}
use Rattle.txn_data.specs.declared.refusal.Refusal.{Refusal}
use Rattle.txn_data.specs.declared.refusal.Refusal.TheVariants as refusal
use Rattle.txn_data.specs.declared.request.Request.TheVariants as request
use Rattle.txn_data.specs.declared.reply.Reply.{Reply}
use Rattle.txn_data.specs.declared.reply.Reply.TheVariants as reply
use Rattle.txn_data.specs.declared.event.Event.{Event}
use Rattle.txn_data.specs.declared.event.Event.TheVariants.{Serve}
use Rattle.txn_data.specs.declared.entry.Entry.{Entry}
use Rattle.txn_types.specs.Lists.{Member}
use Rattle.txn_types.specs.History.{History}
use Rattle.txn_types.specs.Run.{Run}

-- its append failed, and a fault of the log is told
abbrev pub IsFault : Reply → Append → Type 0
IsFault r append = (r ≡ reply.Refused refusal.LogFault) × (append ≡ Failed)

-- it is refused, and there was nothing to log
abbrev pub IsTurned : Reply → Append → Type 0
IsTurned r append = (why : Refusal) × (r ≡ reply.Refused why) × (append ≡ Nothing)

-- accepted at the time that it took, with the append taken
abbrev pub IsAccepted : Reply → Option ℕ → Append → Type 0
IsAccepted r time append = (w : ℕ) × (r ≡ reply.Written w) × (time ≡ Some w) × (append ≡ Took)

-- what a write is answered; one that is refused takes no time
abbrev pub WriteIsAnswered : Event → Type 0
WriteIsAnswered (Serve from (request.Write meta number path op read seen fates) r time append) =
    IsAccepted r time append ⊎ IsFault r append ⊎ (IsTurned r append × (time ≡ None))
WriteIsAnswered event = Unit {0}

abbrev pub WritesAreAnswered : Type 0
WritesAreAnswered = (config : Config) (h : History) (e : Entry) → Run config h → Member e h → WriteIsAnswered e.event

-- the answers to a commit and to an abort after which the transaction is closed
abbrev pub ClosesCommit : Reply → Type 0
ClosesCommit (reply.Committed c) = Unit {0}
ClosesCommit (reply.AbortedBy by) = Unit {0}
ClosesCommit reply.Gone = Unit {0}
ClosesCommit r = ⊥

abbrev pub ClosesAbort : Reply → Type 0
ClosesAbort (reply.Committed c) = Unit {0}
ClosesAbort reply.Ended = Unit {0}
ClosesAbort r = ⊥

-- what a commit and an abort are answered
abbrev pub EndIsAnswered : Event → Type 0
EndIsAnswered (Serve from (request.Commit x floor tablets) r time append) = ClosesCommit r ⊎ IsFault r append ⊎ IsTurned r append
EndIsAnswered (Serve from (request.Abort x) r time append) = ClosesAbort r ⊎ IsFault r append ⊎ IsTurned r append
EndIsAnswered event = Unit {0}

abbrev pub EndsAreAnswered : Type 0
EndsAreAnswered = (config : Config) (h : History) (e : Entry) → Run config h → Member e h → EndIsAnswered e.event
