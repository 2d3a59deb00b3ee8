-- What a restart does to the log of an actor.
use Rattle.std.specs.Prelude.{◌≡◌, ℕ, ◌+◌, ◌↔◌, Bool, true, List, ◌∷◌, ◌++◌, Some, None, length, nat_lt}
use Rattle.docdb_outside.specs.Count.{Rose}
use Rattle.txn_data.specs.declared.actor.Actor.{Actor}
use Rattle.txn_data.specs.declared.append.Append.TheVariants.{Nothing}
use Rattle.txn_data.specs.declared.request.Request.TheVariants.{Restart}
use Rattle.txn_data.specs.declared.reply.Reply.TheVariants.{Refused}
use Rattle.txn_data.specs.declared.refusal.Refusal.TheVariants.{LogFault}
use Rattle.txn_data.specs.declared.event.Event.TheVariants.{Serve, Restarted}
use Rattle.txn_data.specs.declared.entry.Entry.{Entry}
use Rattle.txn_types.specs.History.{History}
use Rattle.txn_types.specs.Lists.{or_else}
use Rattle.txn_types.specs.Clock.{has_failed}
use Rattle.txn_types.specs.Run.{Serves, CanKeep}
use Rattle.log_record.specs.declared.log_record.LogRecord.{LogRecord}
use Rattle.tablet_log.specs.Frames.{Holds, frames}
use Rattle.safe_time.specs.ActorClock.{restarted}
use Rattle.tablet_log.specs.Replay.{lease_in}
use Rattle.tablet_log.specs.Entries.{logged_records}
use Rattle.leased_log.specs.Stands.{LogState, Stands, all_records}

-- a load failed: the actor is down, since then if it was not before
pub record FailsToLoad (old new : LogState) : Type 0 where
  pub held : new.held ≡ old.held
  pub faults : Rose old.faults new.faults
  pub loads : new.loads ≡ old.loads
  pub clock : new.clock ≡ old.clock
  pub actions : new.actions ≡ old.actions + 1
  pub down : new.down ≡ or_else old.down (Some (old.actions + 1))
  pub records : new.records ≡ old.records

abbrev pub failed_load : Actor → Actor → Entry
failed_load a from = record { actor = a; reading = None; event = Serve from Restart (Refused LogFault) None Nothing }

-- the table allows the entry of a load that failed, and the log stands for it too
pub record NotLoaded (a : Actor) (old new : LogState) (bytes : List ℕ) (faults : ℕ) (h : History) (from : Actor) : Type 0 where
  pub serves : Serves old.clock.lease a h None Restart (Refused LogFault) None Nothing
  pub stands : Stands a new bytes faults (failed_load a from ∷ h)

abbrev pub StaysDown : LogState → LogState → Type 0
StaysDown old new =
    (a : Actor) (bytes : List ℕ) (faults : ℕ) (h : History) (from : Actor) → Stands a old bytes faults h → NotLoaded a old new bytes faults h from

-- the actor is up again, as these records have it
pub record StartsFrom (old new : LogState) (keeps : Bool) (found : List LogRecord) : Type 0 where
  pub kept : nat_lt old.records (length found) ≡ keeps
  pub held : new.held ≡ old.held
  pub faults : new.faults ≡ old.faults
  pub loads : new.loads ≡ old.loads
  pub room : new.room ≡ old.room
  pub clock : new.clock ≡ restarted old.clock (lease_in found)
  pub actions : new.actions ≡ old.actions + 1
  pub down : new.down ≡ None
  pub records : new.records ≡ length found

abbrev pub restart : Actor → Actor → Bool → Entry
restart a from kept = record { actor = a; reading = None; event = Restarted from kept }

-- an append failed, no restart came since, and the store holds its records behind the others
abbrev pub HoldsPiece : LogState → List ℕ → History → Type 0
HoldsPiece s bytes h = (has_failed h ≡ true) × (s.held ≡ bytes ++ frames (all_records s.clock.lease h))

-- the table allows the restart, the log stands for it too, and these records stand in it; a failed piece is kept exactly
-- where there is one and the store holds it
pub record IsRestarted (a : Actor) (old new : LogState) (bytes : List ℕ) (faults : ℕ) (h : History) (from : Actor) (kept : Bool) (records : List LogRecord) : Type 0 where
  pub can_keep : CanKeep kept h
  pub keeps : (kept ≡ true) ↔ HoldsPiece old bytes h
  pub stands : Stands a new bytes faults (restart a from kept ∷ h)
  pub logged : logged_records old.clock.lease (restart a from kept ∷ h) ≡ records

abbrev pub Restarts : LogState → LogState → Bool → List LogRecord → Type 0
Restarts old new kept records =
    (a : Actor) (bytes : List ℕ) (faults : ℕ) (h : History) (from : Actor)
    → Stands a old bytes faults h → Holds old.held records → IsRestarted a old new bytes faults h from kept records
