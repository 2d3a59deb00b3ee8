-- Committed transactions with related writes in every run.
use Rattle.std.specs.Prelude.{◌≡◌, ℕ, ◌≤◌, true, ◌⊎◌}
use Rattle.txn_data.specs.declared.committed_txn.CommittedTxn.{CommittedTxn}
use Rattle.txn_data.specs.declared.config.Config.{Config}
use Rattle.txn_data.specs.declared.request.Request.TheVariants as request
use Rattle.txn_data.specs.declared.reply.Reply.TheVariants as reply
use Rattle.txn_data.specs.declared.event.Event.{Event}
use Rattle.txn_data.specs.declared.event.Event.TheVariants.{Serve}
use Rattle.txn_data.specs.declared.entry.Entry.{Entry}
use Rattle.txn_types.specs.Lists.{Member}
use Rattle.txn_types.specs.History.{History}
use Rattle.txn_types.specs.Committed.{committed, committed_snapshots}
use Rattle.txn_types.specs.Plan.{PlacesAgree}
use Rattle.txn_types.specs.Reads.{related_writes}
use Rattle.txn_types.specs.Run.{Run}

-- two committed transactions with related writes never have one commit time, single writes among them
abbrev pub RelatedCommitsDiffer : Type 0
RelatedCommitsDiffer = (config : Config) (h : History) (x y : CommittedTxn) → Run config h → PlacesAgree h → Member x (committed h) → Member y (committed h) →
    (x.txn ≡ y.txn → ⊥) → related_writes x y ≡ true → x.at ≡ y.at → ⊥

-- the entry is an accepted write of the transaction, and read not below this time
abbrev pub WritesFrom : ℕ → ℕ → Event → Type 0
WritesFrom y c (Serve from (request.Write meta number path op read seen fates) (reply.Written w) time append) = (meta.txn ≡ y) × (c ≤ read)
WritesFrom y c event = ⊥

-- an accepted write of the second transaction read not below the commit time of the first
abbrev pub ReadAbove : History → CommittedTxn → CommittedTxn → Type 0
ReadAbove h x y = (f : Entry) × Member f h × WritesFrom y.txn x.at f.event

-- of two committed snapshot transactions with related writes, an accepted write of the one read not below the commit time
-- of the other
abbrev pub RelatedCommitsReadAbove : Type 0
RelatedCommitsReadAbove = (config : Config) (h : History) (x y : CommittedTxn) → Run config h → PlacesAgree h → Member x (committed_snapshots h) →
    Member y (committed_snapshots h) → (x.txn ≡ y.txn → ⊥) → related_writes x y ≡ true → ReadAbove h x y ⊎ ReadAbove h y x
