-- What becomes of a transaction in every run, and what is told of it.
use Rattle.std.specs.Prelude.{◌≡◌, ℕ, ◌<◌, Option}
use Rattle.txn_data.specs.declared.actor.Actor.{Actor}
use Rattle.txn_data.specs.declared.append.Append.{Append}
use Rattle.txn_data.specs.declared.committed_txn.CommittedTxn.{CommittedTxn}
use Rattle.txn_data.specs.declared.config.Config.{Config}
use Rattle.txn_data.specs.declared.fate.Fate.{Fate}
use Rattle.txn_data.specs.declared.fate.Fate.TheVariants as fate
use Rattle.txn_data.specs.declared.request.Request.TheVariants as request
use Rattle.txn_data.specs.declared.reply.Reply.TheVariants as reply
use Rattle.txn_data.specs.declared.event.Event.{Event}
use Rattle.txn_data.specs.declared.event.Event.TheVariants.{Serve}
use Rattle.txn_data.specs.declared.entry.Entry.{Entry}
use Rattle.txn_types.specs.Lists.{Member}
use Rattle.txn_types.specs.History.{History}
use Rattle.txn_types.specs.Committed.{committed_snapshots}
use Rattle.txn_types.specs.Run.{Run}

-- a transaction is committed at this time
abbrev pub CommittedAt : History → ℕ → ℕ → Type 0
CommittedAt h x c = (y : CommittedTxn) × Member y (committed_snapshots h) × (y.txn ≡ x) × (y.at ≡ c)

-- a transaction commits at one time at most
abbrev pub CommitsOnce : Type 0
CommitsOnce = (config : Config) (h : History) (x c d : ℕ) → Run config h → CommittedAt h x c → CommittedAt h x d → c ≡ d

-- an entry that tells what became of a transaction
abbrev pub Tells : ℕ → Event → Fate → Type 0
Tells x (Serve from (request.AskFate y t) (reply.FateIs told) time append) f = (y ≡ x) × (told ≡ f)
Tells x (Serve from (request.Resolve y by priority) (reply.FateIs told) time append) f = (y ≡ x) × (told ≡ f)
Tells x (Serve from (request.Commit y floor tablets) (reply.Committed c) time append) f = (y ≡ x) × (fate.Committed c ≡ f)
Tells x (Serve from (request.Commit y floor tablets) (reply.AbortedBy by) time append) f = (y ≡ x) × (fate.Aborted ≡ f)
Tells x (Serve from (request.Abort y) (reply.Committed c) time append) f = (y ≡ x) × (fate.Committed c ≡ f)
Tells x event f = ⊥

-- where it is told Committed, it is committed at that time
abbrev pub ToldCommittedIs : Type 0
ToldCommittedIs = (config : Config) (h : History) (e : Entry) (x c : ℕ) → Run config h → Member e h → Tells x e.event (fate.Committed c) → CommittedAt h x c

-- where it is told Aborted, it never commits
abbrev pub ToldAbortedNeverCommits : Type 0
ToldAbortedNeverCommits = (config : Config) (h : History) (e : Entry) (x c : ℕ) → Run config h → Member e h → Tells x e.event fate.Aborted → CommittedAt h x c → ⊥

-- where it is told Pending to a question at t, it commits above t if it does
abbrev pub PendingCommitsAbove : Type 0
PendingCommitsAbove = (config : Config) (h : History) (e : Entry) (m : Actor) (x t c : ℕ) (time : Option ℕ) (append : Append) → Run config h → Member e h →
    e.event ≡ Serve m (request.AskFate x t) (reply.FateIs fate.Pending) time append → CommittedAt h x c → t < c
