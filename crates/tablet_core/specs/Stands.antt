-- When a tablet stands for its entries.
use Rattle.std.specs.Prelude.{◌≡◌, ℕ, List, None}
use Rattle.txn_data.specs.declared.actor.Actor.TheVariants.{Tablet}
use Rattle.txn_data.specs.declared.version.Version.{Version}
use Rattle.txn_types.specs.History.{History}
use Rattle.txn_types.specs.Clock.{down_since}
use Rattle.txn_types.specs.Tablet.{provisional, versions}
use Rattle.leased_log.specs.Stands as log
use Rattle.leased_log.specs.Stands.{LogState}
use Rattle.tablet_records.specs.declared.tablet_records.TabletRecords.{TabletRecords}
use Rattle.tablet_records.specs.Keeps.{Keeps}

-- a tablet, as contracts see it
pub record CoreState (V : Type 0) : Type 0 where
  -- which tablet it is
  pub tablet : ℕ
  pub log : LogState
  -- its provisional writes and its versions
  pub records : TabletRecords V

-- Log, clock and counts are those of its entries; and so are the provisional writes and the versions, unless it is down. The
-- entries stand with the newest first. Its log was empty when it was opened, and had counted so many faults. What keeps the
-- versions tells the versions that it holds.
pub record Stands {V : Type 0} (holds : V → List Version → Type 0) (s : CoreState V) (bytes : List ℕ) (faults : ℕ) (h : History) : Type 0 where
  pub log : log.Stands (Tablet s.tablet) s.log bytes faults h
  pub records : down_since h ≡ None → Keeps holds s.records (provisional h) (versions h)
