-- What the commands that end a transaction are told, in every run.
use Rattle.std.specs.Prelude.{◌≡◌, ℕ, true, Some}
use Rattle.txn_data.specs.declared.actor.Actor.{Actor}
use Rattle.txn_data.specs.declared.actor.Actor.TheVariants.{Status}
use Rattle.txn_data.specs.declared.command.Command.{Command}
use Rattle.txn_data.specs.declared.command.Command.TheVariants as command
use Rattle.txn_data.specs.declared.config.Config.{Config}
use Rattle.txn_types.specs.Lists.{Member}
use Rattle.txn_types.specs.History.{History, own}
use Rattle.txn_types.specs.Status as status
use Rattle.txn_types.specs.Status.{record_of}
use Rattle.txn_types.specs.Run.{Run}
use Rattle.txn_types.specs.Cause.{ToldAt, tells}
use Rattle.txn_promises.specs.Lines.{is_abort_line}
use Rattle.txn_promises.specs.Ends.{IsEnd, KeptAbort, CommitEnds, AbortCommits, EndedIsOpen, EndedForGood}

-- a commit is told Ended exactly where its record is absent because an abort of its own was kept
abbrev pub CommitsToldEnded : Type 0
CommitsToldEnded = (config : Config) (h : History) (t : ToldAt) (x : ℕ) → Run config h → Member t (tells h) → IsEnd config t command.Commit x → CommitEnds t x

-- and where such an abort was kept, the record is absent
abbrev pub KeptAbortsLeaveNone : Type 0
KeptAbortsLeaveNone = (config : Config) (h : History) (m : Actor) (j x : ℕ) → Run config h → KeptAbort m x (own (Status j) h) → record_of x (own (Status j) h) ≡ status.NoRecord

-- an abort or an end is told Committed exactly where the record is Committed, at its time
abbrev pub AbortsToldCommitted : Type 0
AbortsToldCommitted = (config : Config) (h : History) (t : ToldAt) (line : Command) (x c : ℕ) → Run config h → Member t (tells h) → IsEnd config t line x → is_abort_line (Some line) ≡ true → AbortCommits t line x c

-- what is told Ended is the transaction that the session has open, and it never commits
abbrev pub EndedNeverCommits : Type 0
EndedNeverCommits = (config : Config) (h : History) (t : ToldAt) → Run config h → Member t (tells h) → EndedIsOpen config t × EndedForGood h t
