-- What a restart of a tablet comes to.
use Rattle.std.specs.Prelude.{◌≡◌, ◌↔◌, ℕ, Bool, true, List, None}
use Rattle.docdb_outside.specs.Count.{Rose}
use Rattle.txn_data.specs.declared.version.Version.{Version}
use Rattle.log_record.specs.declared.log_record.LogRecord.{LogRecord}
use Rattle.tablet_log.specs.Frames.{Holds}
use Rattle.txn_types.specs.History.{History}
use Rattle.safe_time.specs.ActorClock.{restarted}
use Rattle.tablet_log.specs.Replay.{tablet_of, lease_in}
use Rattle.leased_log.specs.Stands.{LogState, IsSame}
use Rattle.leased_log.specs.Loads.{FailsToLoad, StaysDown, StartsFrom, Restarts, HoldsPiece}
use Rattle.tablet_records.specs.Keeps.{Keeps}
use Rattle.tablet_core.specs.Stands.{CoreState, Stands}

-- It is up again, and stands for what the records that its log holds stand for. A failed piece is kept exactly where there is
-- one and the store holds it. Its store loaded the log.
pub record IsRebuilt {V : Type 0} (holds : V → List Version → Type 0) (old new : CoreState V) (kept : Bool) : Type 0 where
  pub found : List LogRecord
  pub held : Holds old.log.held found
  pub same : new.log.held ≡ old.log.held
  pub loads : Rose old.log.loads new.log.loads
  pub up : new.log.down ≡ None
  pub clock : new.log.clock ≡ restarted old.log.clock (lease_in found)
  pub records : Keeps holds new.records (tablet_of found).intents (tablet_of found).versions
  pub keeps : (bytes : List ℕ) (faults : ℕ) (h : History) → Stands holds old bytes faults h → (kept ≡ true) ↔ HoldsPiece old.log bytes h

-- it starts from the records that its log holds
pub record StartsAgain {V : Type 0} (holds : V → List Version → Type 0) (old new : CoreState V) (kept : Bool) : Type 0 where
  pub middle : LogState
  pub found : List LogRecord
  pub same : IsSame old.log middle
  pub held : Holds old.log.held found
  pub loads : Rose old.log.loads new.log.loads
  pub starts : StartsFrom middle new.log kept found
  pub restarts : Restarts middle new.log kept found
  pub tablet : new.tablet ≡ old.tablet
  pub records : Keeps holds new.records (tablet_of found).intents (tablet_of found).versions

-- its load failed
pub record StaysUnloaded {V : Type 0} (old new : CoreState V) : Type 0 where
  pub fails : FailsToLoad old.log new.log
  pub stays : StaysDown old.log new.log
  pub tablet : new.tablet ≡ old.tablet
