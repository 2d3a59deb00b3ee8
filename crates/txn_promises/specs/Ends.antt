-- What the commands that end a transaction find of its record, and what they are told.
use Rattle.std.specs.Prelude.{◌≡◌, ℕ, true, List, Some, None}
use Rattle.txn_data.specs.declared.actor.Actor.{Actor}
use Rattle.txn_data.specs.declared.append.Append.TheVariants.{Failed}
use Rattle.txn_data.specs.declared.command.Command.{Command}
use Rattle.txn_data.specs.declared.command.Command.TheVariants as command
use Rattle.txn_data.specs.declared.committed_txn.CommittedTxn.{CommittedTxn}
use Rattle.txn_data.specs.declared.config.Config.{Config}
use Rattle.txn_data.specs.declared.request.Request.{Request}
use Rattle.txn_data.specs.declared.request.Request.TheVariants as request
use Rattle.txn_data.specs.declared.told.Told.TheVariants as told
use Rattle.txn_data.specs.declared.event.Event.{Event}
use Rattle.txn_data.specs.declared.event.Event.TheVariants.{Serve}
use Rattle.txn_data.specs.declared.entry.Entry.{Entry}
use Rattle.txn_types.specs.Lists.{Member}
use Rattle.txn_types.specs.History.{History, standing}
use Rattle.txn_types.specs.Clock.{down_since}
use Rattle.txn_types.specs.Status.{Record, NoRecord, Committed, record_of}
use Rattle.txn_types.specs.Committed.{committed}
use Rattle.txn_types.specs.Session.{Opened}
use Rattle.txn_types.specs.Cause.{ToldAt, ServedAt, served_since, own_then}
use Rattle.txn_promises.specs.Lines.{mover_then, is_abort_line}

-- the request that a line asks for to end its transaction: a commit, or an abort
abbrev pub AsksEnd : Command → ℕ → Request → Type 0
AsksEnd command.Commit x (request.Commit y floor tablets) = y ≡ x
AsksEnd command.Abort x (request.Abort y) = y ≡ x
AsksEnd command.End x (request.Abort y) = y ≡ x
AsksEnd line x asked = ⊥

-- the command that was told so is this line, and the transaction that its session has open is x
pub record IsEnd (config : Config) (t : ToldAt) (line : Command) (x : ℕ) : Type 0 where
  pub under_way : (mover_then config t).line ≡ Some line
  pub opened : Opened
  pub is_open : (mover_then config t).keeps.opened ≡ Some opened
  pub txn : opened.meta.txn ≡ x

-- its request was served by a status tablet that was up and had this record of x
pub record FoundRecord (t : ToldAt) (line : Command) (x : ℕ) (r : Record) : Type 0 where
  pub served : ServedAt
  pub here : Member served (served_since t.who t.before)
  pub asked : AsksEnd line x served.asked
  pub up : down_since (own_then served) ≡ None
  pub was : record_of x (own_then served) ≡ r

-- an abort of x by this mover whose append failed
abbrev pub FailsToAbort : Actor → ℕ → Event → Type 0
FailsToAbort m x (Serve from (request.Abort y) r time Failed) = (from ≡ m) × (y ≡ x)
FailsToAbort m x event = ⊥

-- such an abort stands in the log of these own entries: the log kept it
pub record KeptAbort (m : Actor) (x : ℕ) (o : History) : Type 0 where
  pub entry : Entry
  pub stands : Member entry (standing o)
  pub fails : FailsToAbort m x entry.event

-- the record was absent because an abort of the transaction's own session was kept
pub record AbsentByAbort (t : ToldAt) (line : Command) (x : ℕ) : Type 0 where
  pub found : FoundRecord t line x NoRecord
  pub kept : KeptAbort t.who x (own_then found.served)

-- a commit is told Ended exactly where its record is absent because an abort of its own was kept
pub record CommitEnds (t : ToldAt) (x : ℕ) : Type 0 where
  pub absent : t.told ≡ told.Ended x → AbsentByAbort t command.Commit x
  pub ended : FoundRecord t command.Commit x NoRecord → t.told ≡ told.Ended x

-- an abort or an end is told Committed exactly where its record is Committed, at its time
pub record AbortCommits (t : ToldAt) (line : Command) (x c : ℕ) : Type 0 where
  pub found : t.told ≡ told.Committed x c → (tablets : List ℕ) × FoundRecord t line x (Committed c tablets)
  pub committed : (tablets : List ℕ) → FoundRecord t line x (Committed c tablets) → t.told ≡ told.Committed x c

-- what was told Ended is the transaction that the session has open
abbrev pub EndedIsOpen : Config → ToldAt → Type 0
EndedIsOpen config t = (x : ℕ) → t.told ≡ told.Ended x → (line : Command) × IsEnd config t line x

-- and it never commits
abbrev pub EndedForGood : History → ToldAt → Type 0
EndedForGood h t = (x : ℕ) → t.told ≡ told.Ended x → (y : CommittedTxn) → Member y (committed h) → y.txn ≡ x → ⊥

-- a command that ends its transaction is told Ended and Committed just so
pub record EndsAsFound (config : Config) (h : History) (t : ToldAt) : Type 0 where
  pub commits : (x : ℕ) → IsEnd config t command.Commit x → CommitEnds t x
  pub aborts : (line : Command) (x c : ℕ) → IsEnd config t line x → is_abort_line (Some line) ≡ true → AbortCommits t line x c
  pub is_open : EndedIsOpen config t
  pub for_good : EndedForGood h t

-- what was told Committed is committed, at that time and at no other
pub record CommittedAsTold (h : History) (x at : ℕ) : Type 0 where
  pub commit : CommittedTxn
  pub there : Member commit (committed h)
  pub txn : commit.txn ≡ x
  pub time : commit.at ≡ at
  pub only : (y : CommittedTxn) → Member y (committed h) → y.txn ≡ x → y.at ≡ at
