-- What the runs show: they meet the premises of the promises over all runs, and hold what these speak of.
use Rattle.std.specs.Prelude.{◌≡◌, ℕ, Bool, true, List, [], ◌∷◌, Option, Some, None}
use Rattle.txn_data.specs.declared.actor.Actor.{Actor}
use Rattle.txn_data.specs.declared.actor.Actor.TheVariants.{Tablet, Status, Applier}
use Rattle.txn_data.specs.declared.append.Append.TheVariants.{Took, Failed}
use Rattle.txn_data.specs.declared.committed_txn.CommittedTxn.{CommittedTxn}
use Rattle.txn_data.specs.declared.commands.Commands.{Commands}
use Rattle.txn_data.specs.declared.config.Config.{Config}
use Rattle.txn_data.specs.declared.event.Event.TheVariants.{Serve, Restarted}
use Rattle.txn_data.specs.declared.reply.Reply.TheVariants as reply
use Rattle.txn_data.specs.declared.refusal.Refusal.TheVariants as refusal
use Rattle.txn_data.specs.declared.request.Request.TheVariants as request
use Rattle.txn_data.specs.declared.row.Row.{Row}
use Rattle.txn_data.specs.declared.told.Told.TheVariants as told
use Rattle.txn_types.specs.Lists.{Member}
use Rattle.txn_types.specs.History.{History}
use Rattle.txn_types.specs.Committed.{committed_snapshots}
use Rattle.txn_types.specs.Plan.{PlacesAgree}
use Rattle.txn_types.specs.Reads.{Read, reads, known, inside, line_of, places_asked, was_told, related_writes, SkewHeld}
use Rattle.txn_types.specs.ReadProgram.{tablets_of}
use Rattle.txn_types.specs.Script.{IsRunnable, Whole, Scheduled}
use Rattle.txn_types.specs.Settled.{Settled, last_told}
use Rattle.txn_types.specs.Run.{Run}
use Rattle.law_witness.specs.Witness.{entry}

-- a status tablet restarted
pub record StatusRestarted (h : History) : Type 0 where
  pub number : ℕ
  pub mover : Actor
  pub kept : Bool
  pub here : Member (entry (Status number) None (Restarted mover kept)) h

-- a tablet applied a transaction at its commit time, and logged it
pub record WasApplied (h : History) (x : CommittedTxn) : Type 0 where
  pub number : ℕ
  pub mover : Actor
  pub reading : Option ℕ
  pub time : Option ℕ
  pub here : Member (entry (Tablet number) reading (Serve mover (request.Apply x.txn x.at) reply.AppliedHere time Took)) h

-- a finished read restarted once and shows these rows; clocks agreed within the skew before it, and the transaction was
-- known then
pub record WasReadAgain (config : Config) (h : History) (x : CommittedTxn) (rows : List Row) : Type 0 where
  pub read : Read
  pub finished : Member read (reads h)
  pub again : read.restarts ≡ 1
  pub shows : read.rows ≡ rows
  pub skew : SkewHeld config config.skew_us read
  pub was_known : Member x (known config h read)

-- a run in which places agree, a status tablet restarts, and a committed transaction is read so and applied
pub record ShowsAll (config : Config) (h : History) (rows : List Row) : Type 0 where
  pub run : Run config h
  pub places : PlacesAgree h
  pub restarted : StatusRestarted h
  pub txn : CommittedTxn
  pub committed : Member txn (committed_snapshots h)
  pub read_again : WasReadAgain config h txn rows
  pub applied : WasApplied h txn

-- a run in which places agree, and two transactions with related writes are committed
pub record TwoWritersCommit (config : Config) (h : History) : Type 0 where
  pub run : Run config h
  pub places : PlacesAgree h
  pub first : CommittedTxn
  pub second : CommittedTxn
  pub first_committed : Member first (committed_snapshots h)
  pub second_committed : Member second (committed_snapshots h)
  pub differ : first.txn ≡ second.txn → ⊥
  pub related : related_writes first second ≡ true

-- the append of a commit failed, at a status tablet that restarted and kept it
pub record FailedAndKept (h : History) (x : CommittedTxn) : Type 0 where
  pub number : ℕ
  pub mover : Actor
  pub reading : Option ℕ
  pub floor : ℕ
  pub tablets : List ℕ
  pub failed : Member (entry (Status number) reading (Serve mover (request.Commit x.txn floor tablets) (reply.Refused refusal.LogFault) (Some x.at) Failed)) h
  pub restarter : Actor
  pub kept : Member (entry (Status number) None (Restarted restarter true)) h

-- a run in which places agree, and a commit whose append failed and was kept stands and is told
pub record KeptCommitStands (config : Config) (h : History) : Type 0 where
  pub run : Run config h
  pub places : PlacesAgree h
  pub txn : CommittedTxn
  pub committed : Member txn (committed_snapshots h)
  pub append : FailedAndKept h txn
  pub told : was_told h txn.txn ≡ true

-- a run in which places agree, and a read inside a transaction finished with these rows
pub record ReadsInside (config : Config) (h : History) (rows : List Row) : Type 0 where
  pub run : Run config h
  pub places : PlacesAgree h
  pub read : Read
  pub finished : Member read (reads h)
  pub txn : ℕ
  pub inside_txn : inside config read ≡ Some txn
  pub shows : read.rows ≡ rows
  pub skew : SkewHeld config config.skew_us read

-- a run in which places agree, and a read over two tablets finished in its second round with these rows
pub record ReadsTwoTablets (config : Config) (h : History) (rows : List Row) : Type 0 where
  pub run : Run config h
  pub places : PlacesAgree h
  pub read : Read
  pub finished : Member read (reads h)
  pub tablets : tablets_of (places_asked (line_of config read)) ≡ 0 ∷ 1 ∷ []
  pub again : read.restarts ≡ 1
  pub shows : read.rows ≡ rows
  pub skew : SkewHeld config config.skew_us read

-- a run in which places agree, and the last pass over tablet 0 was told that one transaction is left, and just that is left
pub record LeavesOne (config : Config) (h : History) : Type 0 where
  pub run : Run config h
  pub places : PlacesAgree h
  pub told : last_told (Applier 0) h ≡ Some (told.Passed 0 0 1)
  pub settled : Settled h 0 1

-- a run that does all of a plan, in the order and with the readings of its schedule; the plan can be run
pub record PlanIsDone (config : Config) (plan : Commands) (h : History) : Type 0 where
  pub runnable : IsRunnable config plan
  pub run : Run config h
  pub whole : Whole config plan h
  pub scheduled : Scheduled config plan h
