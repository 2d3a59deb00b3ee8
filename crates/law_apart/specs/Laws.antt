-- Committed snapshot transactions with related writes do not overlap, in every run.
use Rattle.std.specs.Prelude.{◌≡◌, true}
use Rattle.txn_data.specs.declared.committed_txn.CommittedTxn.{CommittedTxn}
use Rattle.txn_data.specs.declared.config.Config.{Config}
use Rattle.txn_types.specs.Lists.{Member}
use Rattle.txn_types.specs.History.{History}
use Rattle.txn_types.specs.Committed.{committed_snapshots}
use Rattle.txn_types.specs.Plan.{PlacesAgree}
use Rattle.txn_types.specs.Reads.{related_writes, Apart}
use Rattle.txn_types.specs.Run.{Run}

-- each two different committed snapshot transactions with related writes are apart
abbrev pub RelatedAreApart : Type 0
RelatedAreApart = (config : Config) (h : History) (x y : CommittedTxn) → Run config h → PlacesAgree h → Member x (committed_snapshots h) →
    Member y (committed_snapshots h) → (x.txn ≡ y.txn → ⊥) → related_writes x y ≡ true → Apart config h x y
