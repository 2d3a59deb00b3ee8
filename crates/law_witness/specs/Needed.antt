-- Each premise of a promise is needed: runs in which one premise is missing, and what is promised fails.
use Rattle.std.specs.Prelude.{◌≡◌, ◌<◌, true, false}
use Rattle.txn_data.specs.declared.committed_txn.CommittedTxn.{CommittedTxn}
use Rattle.txn_data.specs.declared.config.Config.{Config}
use Rattle.txn_types.specs.Lists.{Member}
use Rattle.txn_types.specs.History.{History}
use Rattle.txn_types.specs.Committed.{committed, committed_snapshots}
use Rattle.txn_types.specs.Plan.{PlacesAgree}
use Rattle.txn_types.specs.Reads.{Read, reads, paths_asked, touches, origin, was_told, final_time, Right, Fresh, SkewHeld, related_writes, Apart}
use Rattle.txn_types.specs.Run.{Run}
use Rattle.txn_promises.specs.Promises.{CommitsDiffer, WritersDoNotOverlap}
use Rattle.law_witness.specs.Witness.{small}
use Rattle.law_witness.specs.Scripts.{run_of, two_tablets, two_homes_script, within_skew, read_elsewhere, singles_at_two, writers_at_two, unrelated_singles, unrelated_writers}

-- ## without the skew

-- places agree, and a finished read is not fresh: clocks did not agree within the skew before it
pub record NotFreshBeyondSkew (config : Config) (h : History) : Type 0 where
  pub run : Run config h
  pub places : PlacesAgree h
  pub read : Read
  pub finished : Member read (reads h)
  pub beyond : SkewHeld config config.skew_us read → ⊥
  pub not_fresh : Fresh config h read → ⊥

-- ## without a commit that was told before the read began

-- places agree, clocks agreed within the skew before a finished read, and a commit that is related to it and was told is later
-- than its final time: it was not told before the read began
pub record MissesLaterCommit (config : Config) (h : History) : Type 0 where
  pub run : Run config h
  pub places : PlacesAgree h
  pub read : Read
  pub finished : Member read (reads h)
  pub skew : SkewHeld config config.skew_us read
  pub txn : CommittedTxn
  pub committed_txn : Member txn (committed h)
  pub related : touches (paths_asked config read) txn ≡ true
  pub told : was_told read.before txn.txn ≡ true
  pub not_before : was_told (origin config read) txn.txn ≡ false
  pub missed : final_time config read < txn.at

-- ## without a related commit

-- places agree, clocks agreed within the skew before a finished read, and a commit that was told before it began is later than
-- its final time: it is not related to the read
pub record MissesUnrelatedCommit (config : Config) (h : History) : Type 0 where
  pub run : Run config h
  pub places : PlacesAgree h
  pub read : Read
  pub finished : Member read (reads h)
  pub skew : SkewHeld config config.skew_us read
  pub txn : CommittedTxn
  pub committed_txn : Member txn (committed h)
  pub told_before : was_told (origin config read) txn.txn ≡ true
  pub unrelated : touches (paths_asked config read) txn ≡ false
  pub missed : final_time config read < txn.at

-- ## without places that agree

-- clocks agreed within the skew before a finished read, and it is not right
pub record NotRightAtTwo (config : Config) (h : History) : Type 0 where
  pub run : Run config h
  pub disagree : PlacesAgree h → ⊥
  pub read : Read
  pub finished : Member read (reads h)
  pub skew : SkewHeld config config.skew_us read
  pub not_right : Right config h read → ⊥

-- the same, and it is not fresh
pub record NotFreshAtTwo (config : Config) (h : History) : Type 0 where
  pub run : Run config h
  pub disagree : PlacesAgree h → ⊥
  pub read : Read
  pub finished : Member read (reads h)
  pub skew : SkewHeld config config.skew_us read
  pub not_fresh : Fresh config h read → ⊥

-- two commits with related writes have one time
pub record SameTimeAtTwo (config : Config) (h : History) : Type 0 where
  pub run : Run config h
  pub disagree : PlacesAgree h → ⊥
  pub first : CommittedTxn
  pub second : CommittedTxn
  pub same_time : CommitsDiffer h first second → ⊥

-- two committed transactions with related writes overlap
pub record OverlapAtTwo (config : Config) (h : History) : Type 0 where
  pub run : Run config h
  pub disagree : PlacesAgree h → ⊥
  pub first : CommittedTxn
  pub second : CommittedTxn
  pub overlap : WritersDoNotOverlap config h first second → ⊥

-- so without that a read may be wrong, or stale, and commits may have one time, or overlap
pub record OneTabletIsNeeded : Type 0 where
  pub not_right : NotRightAtTwo two_tablets (run_of two_tablets two_homes_script)
  pub not_fresh : NotFreshAtTwo within_skew (run_of within_skew read_elsewhere)
  pub same_time : SameTimeAtTwo two_tablets (run_of two_tablets singles_at_two)
  pub overlap : OverlapAtTwo two_tablets (run_of two_tablets writers_at_two)

-- ## without a snapshot transaction on each side

-- places agree, and of two commits with related writes one is a single write: they are not apart, as transactions have to be,
-- since a single write has no read time
pub record SingleNotApart (config : Config) (h : History) : Type 0 where
  pub run : Run config h
  pub places : PlacesAgree h
  pub txn : CommittedTxn
  pub single : CommittedTxn
  pub txn_committed : Member txn (committed_snapshots h)
  pub single_committed : Member single (committed h)
  pub is_single : Member single (committed_snapshots h) → ⊥
  pub differ : txn.txn ≡ single.txn → ⊥
  pub related : related_writes txn single ≡ true
  pub not_apart : Apart config h txn single → ⊥

-- ## without related writes

-- places agree, and two commits have one time
pub record SameTimeUnrelated (config : Config) (h : History) : Type 0 where
  pub run : Run config h
  pub places : PlacesAgree h
  pub first : CommittedTxn
  pub second : CommittedTxn
  pub first_committed : Member first (committed h)
  pub second_committed : Member second (committed h)
  pub differ : first.txn ≡ second.txn → ⊥
  pub unrelated : related_writes first second ≡ false
  pub same_time : first.at ≡ second.at

-- places agree, and two committed transactions overlap
pub record OverlapUnrelated (config : Config) (h : History) : Type 0 where
  pub run : Run config h
  pub places : PlacesAgree h
  pub first : CommittedTxn
  pub second : CommittedTxn
  pub first_committed : Member first (committed_snapshots h)
  pub second_committed : Member second (committed_snapshots h)
  pub differ : first.txn ≡ second.txn → ⊥
  pub unrelated : related_writes first second ≡ false
  pub not_apart : Apart config h first second → ⊥

-- so commits that are not related may have one time, or overlap
pub record RelatedWritesAreNeeded : Type 0 where
  pub same_time : SameTimeUnrelated two_tablets (run_of two_tablets unrelated_singles)
  pub overlap : OverlapUnrelated small (run_of small unrelated_writers)
