-- What the finished reads, the committed transactions and the told commands of a run are promised, in one record over a cluster
-- and its history.
use Rattle.std.specs.Prelude.{◌≡◌, ℕ, ◌<◌, true, Some}
use Rattle.txn_data.specs.declared.config.Config.{Config}
use Rattle.txn_data.specs.declared.committed_txn.CommittedTxn.{CommittedTxn}
use Rattle.txn_data.specs.declared.request.Request.TheVariants as request
use Rattle.txn_data.specs.declared.told.Told.TheVariants as told
use Rattle.txn_data.specs.declared.event.Event.{Event}
use Rattle.txn_data.specs.declared.event.Event.TheVariants.{Serve}
use Rattle.txn_data.specs.declared.entry.Entry.{Entry}
use Rattle.txn_types.specs.Lists.{Member}
use Rattle.txn_types.specs.History.{History}
use Rattle.txn_types.specs.Committed.{committed, committed_snapshots}
use Rattle.txn_types.specs.Cause.{ToldAt, tells, Cause}
use Rattle.txn_types.specs.Reads.{Read, reads, read_time, IsFinal, Right, SkewHeld, Fresh, Steady, related_writes, Apart}
use Rattle.txn_promises.specs.Answers.{IsAnswered}
use Rattle.txn_promises.specs.Ends.{EndsAsFound, CommittedAsTold}
use Rattle.txn_promises.specs.Left.{LeftAsTold}
use Rattle.txn_promises.specs.Leaves.{Leaves}
use Rattle.txn_promises.specs.Refuses.{Decides}

-- A finished read was told its final time. It shows what the fold of all commits up to that time leaves on the paths asked,
-- with its transaction's own writes on top. It is not earlier than what its own session was told before it began. If clocks
-- agreed within the skew, it is not earlier than any related commit that was told to anybody before it began. A read inside a
-- transaction begins with its transaction.
pub record ReadKeeps (config : Config) (h : History) (read : Read) : Type 0 where
  pub final : IsFinal config read
  pub right : Right config h read
  pub steady : Steady config h read
  pub fresh : SkewHeld config config.skew_us read → Fresh config h read

-- the event is a write of the transaction at a tablet, and took this time
abbrev pub TookTime : ℕ → ℕ → Event → Type 0
TookTime x w (Serve from (request.Write meta number path op read seen fates) r time append) = (meta.txn ≡ x) × (time ≡ Some w)
TookTime x w event = ⊥

-- A committed snapshot transaction committed above each of its provisional times and above its read time.
pub record CommitKeeps (config : Config) (h : History) (x : CommittedTxn) : Type 0 where
  pub above_writes : (e : Entry) (w : ℕ) → Member e h → TookTime x.txn w e.event → w < x.at
  pub above_reads : read_time config h x.txn < x.at

-- Two different committed transactions with related writes have different commit times; single writes are among them.
abbrev pub CommitsDiffer : History → CommittedTxn → CommittedTxn → Type 0
CommitsDiffer h x y = Member x (committed h) → Member y (committed h) → (x.txn ≡ y.txn → ⊥) → related_writes x y ≡ true → x.at ≡ y.at → ⊥

-- Two different committed snapshot transactions with related writes do not overlap: one committed not later than the other
-- read.
abbrev pub WritersDoNotOverlap : Config → History → CommittedTxn → CommittedTxn → Type 0
WritersDoNotOverlap config h x y = Member x (committed_snapshots h) → Member y (committed_snapshots h) → (x.txn ≡ y.txn → ⊥) → related_writes x y ≡ true → Apart config h x y

-- What is promised of each thing that a session or an applier is told. A refusal has its cause, leaves what it may, and is told
-- wherever its condition holds, or out of memory in its place. Anything else is an answer of the command. Ended and Committed are
-- told as the record was found, what was told Ended stays so, and what was told Committed is a commit at that time.
pub record ToldKeeps (config : Config) (h : History) (t : ToldAt) : Type 0 where
  pub cause : Cause config t
  pub answer : IsAnswered config t
  pub leaves : Leaves config h t
  pub decides : Decides config t
  pub ends : EndsAsFound config h t
  pub commits : (x at : ℕ) → t.told ≡ told.Committed x at → CommittedAsTold h x at

-- All of a run: its finished reads, its committed transactions, what its movers are told, and what the last pass over a tablet
-- has left once all is at rest.
pub record Promises (config : Config) (h : History) : Type 0 where
  pub reads_keep : (read : Read) → Member read (reads h) → ReadKeeps config h read
  pub commits_keep : (x : CommittedTxn) → Member x (committed_snapshots h) → CommitKeeps config h x
  pub commits_differ : (x y : CommittedTxn) → CommitsDiffer h x y
  pub writers_apart : (x y : CommittedTxn) → WritersDoNotOverlap config h x y
  pub tells_keep : (t : ToldAt) → Member t (tells h) → ToldKeeps config h t
  pub left : (k : ℕ) → LeftAsTold config h k
