-- When a status tablet stands for its entries.
use Rattle.std.specs.Prelude.{◌≡◌, ℕ, List, None}
use Rattle.txn_data.specs.declared.actor.Actor.TheVariants.{Status}
use Rattle.txn_types.specs.History.{History}
use Rattle.txn_types.specs.Clock.{down_since}
use Rattle.txn_types.specs.Status.{record_of, noted, is_sure}
use Rattle.leased_log.specs.Stands as log
use Rattle.leased_log.specs.Stands.{LogState}
use Rattle.status_tablet.specs.declared.txn_record.TxnRecord.{TxnRecord}
use Rattle.status_tablet.specs.Keeps.{kept_at, kept_of}

-- a status tablet, as contracts see it
pub record StatusState : Type 0 where
  -- which status tablet it is
  pub status : ℕ
  pub log : LogState
  -- what it keeps of each transaction
  pub records : List (ℕ × TxnRecord)

-- Log, clock and counts are those of its entries; and so are the records, unless it is down. The entries stand with the
-- newest first. Its log was empty when it was opened, and had counted so many faults.
pub record Stands (s : StatusState) (bytes : List ℕ) (faults : ℕ) (h : History) : Type 0 where
  pub log : log.Stands (Status s.status) s.log bytes faults h
  pub records : down_since h ≡ None → (x : ℕ) → kept_at s.records x ≡ kept_of (record_of x h) (noted x h) (is_sure x h)
