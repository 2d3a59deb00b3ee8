-- What a session asks of its transactions in every run, one after another, and that a commit covers all its writes.
use Rattle.std.specs.Prelude.{◌≡◌, ℕ, ◌<◌, List, Option, Some}
use Rattle.doc_path.specs.Path.{Parts}
use Rattle.txn_data.specs.declared.actor.Actor.{Actor}
use Rattle.txn_data.specs.declared.append.Append.{Append}
use Rattle.txn_data.specs.declared.append.Append.TheVariants.{Failed}
use Rattle.txn_data.specs.declared.config.Config.{Config}
use Rattle.txn_data.specs.declared.fate_of.FateOf.{FateOf}
use Rattle.txn_data.specs.declared.meta.Meta.{Meta}
use Rattle.txn_data.specs.declared.op.Op.{Op}
use Rattle.txn_data.specs.declared.request.Request.TheVariants as request
use Rattle.txn_data.specs.declared.reply.Reply.{Reply}
use Rattle.txn_data.specs.declared.event.Event.TheVariants.{Serve}
use Rattle.txn_data.specs.declared.entry.Entry.{Entry}
use Rattle.txn_types.specs.Lists.{Member}
use Rattle.txn_types.specs.History.{History}
use Rattle.txn_types.specs.Run.{Run}
use Rattle.law_machines.specs.Own.{StandsOver}
use Rattle.law_fates.specs.Laws.{CommittedAt}
use Rattle.law_open_txns.specs.Transaction.{IsEndOf, IsWriteOf, Begun, IsCoveredBy}

-- a transaction writes only once its Begin was answered Begun
abbrev pub WritesAreBegun : Type 0
WritesAreBegun = (config : Config) (h before : History) (e : Entry) (x : ℕ) → Run config h → StandsOver e before h → IsWriteOf x e.event → Begun before x

-- once a commit or an abort of a transaction was to be logged, it writes no more; of the log nothing is asked: the append
-- may have failed, and been kept or lost
abbrev pub NoWriteAfterEnd : Type 0
NoWriteAfterEnd = (config : Config) (h before : History) (e k : Entry) (x : ℕ) → Run config h → StandsOver e before h → IsWriteOf x e.event →
    Member k before → IsEndOf x k.event → ⊥

-- a request to commit covers all that the transaction wrote before
abbrev pub CommitsCover : Type 0
CommitsCover = (config : Config) (h before : History) (e k : Entry) (m : Actor) (x floor : ℕ) (tablets : List ℕ) (r : Reply) (time : Option ℕ) (append : Append) →
    Run config h → StandsOver k before h → k.event ≡ Serve m (request.Commit x floor tablets) r time append → Member e before →
    IsCoveredBy x floor tablets e.actor e.event

-- a transaction commits above the times of all its writes and above the time that each of them read at; and one with a
-- write whose append failed never commits
abbrev pub CommitsAboveWrites : Type 0
CommitsAboveWrites = (config : Config) (h : History) (e : Entry) (c number read seen : ℕ) (m : Actor) (meta : Meta) (path : Parts) (op : Op) (fates : List FateOf)
    (r : Reply) (time : Option ℕ) (append : Append) → Run config h → Member e h →
    e.event ≡ Serve m (request.Write meta number path op read seen fates) r time append → CommittedAt h meta.txn c →
    (append ≡ Failed → ⊥) × (read < c) × ((w : ℕ) → time ≡ Some w → w < c)
