-- What a restart of a status tablet comes to.
use Rattle.std.specs.Prelude.{◌≡◌, ℕ, ◌↔◌, Bool, true, false, List, [], None}
use Rattle.std.specs.List.{fold}
use Rattle.docdb_outside.specs.Count.{Rose}
use Rattle.txn_data.specs.declared.reply.Reply.{Reply}
use Rattle.txn_data.specs.declared.reply.Reply.TheVariants as reply
use Rattle.log_record.specs.declared.log_record.LogRecord.{LogRecord}
use Rattle.txn_types.specs.History.{History}
use Rattle.safe_time.specs.ActorClock.{restarted}
use Rattle.tablet_log.specs.Frames.{Holds}
use Rattle.tablet_log.specs.Replay.{record_in, lease_in}
use Rattle.leased_log.specs.Stands.{LogState, IsSame}
use Rattle.leased_log.specs.Loads.{FailsToLoad, StaysDown, StartsFrom, Restarts, HoldsPiece}
use Rattle.status_tablet.specs.Keeps.{kept_at, kept_of, kept_after}
use Rattle.status_tablet.specs.Stands.{StatusState, Stands}

-- where the reply tells of a restart
abbrev pub IfRestarted : Reply → (Bool → Type 0) → Type 0
IfRestarted (reply.Restarted kept) P = P kept
IfRestarted r P = Unit {0}

-- It is up again, and keeps what the records that its log holds stand for: no tablet is noted, and no owner was told. A failed
-- piece is kept exactly where there is one and the store holds it. Its store loaded the log.
pub record IsRebuilt (old new : StatusState) (kept : Bool) : Type 0 where
  pub found : List LogRecord
  pub held : Holds old.log.held found
  pub same : new.log.held ≡ old.log.held
  pub loads : Rose old.log.loads new.log.loads
  pub up : new.log.down ≡ None
  pub clock : new.log.clock ≡ restarted old.log.clock (lease_in found)
  pub records : (x : ℕ) → kept_at new.records x ≡ kept_of (record_in x found) [] false
  pub keeps : (bytes : List ℕ) (faults : ℕ) (h : History) → Stands old bytes faults h → (kept ≡ true) ↔ HoldsPiece old.log bytes h

-- it starts from the records that its log holds
pub record StartsAgain (old new : StatusState) (kept : Bool) : Type 0 where
  pub middle : LogState
  pub found : List LogRecord
  pub same : IsSame old.log middle
  pub held : Holds old.log.held found
  pub loads : Rose old.log.loads new.log.loads
  pub starts : StartsFrom middle new.log kept found
  pub restarts : Restarts middle new.log kept found
  pub status : new.status ≡ old.status
  pub records : (x : ℕ) → kept_at new.records x ≡ fold (λ old r. kept_after r x old) None found

-- its load failed
pub record StaysUnloaded (old new : StatusState) : Type 0 where
  pub fails : FailsToLoad old.log new.log
  pub stays : StaysDown old.log new.log
  pub status : new.status ≡ old.status
