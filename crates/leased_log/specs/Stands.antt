-- When the log, the clock and the counts of an actor are those of its entries.
use Rattle.std.specs.Prelude.{◌≡◌, ℕ, ◌*◌, ◌≤◌, true, List, [], ◌++◌, length, Option, None}
use Rattle.std.specs.List.{AllByRecursion}
use Rattle.txn_data.specs.declared.actor.Actor.{Actor}
use Rattle.txn_types.specs.History.{History}
use Rattle.txn_types.specs.Clock.{down_since, has_failed}
use Rattle.safe_time.specs.ActorClock.{ClockState, clock_of}
use Rattle.log_record.specs.declared.log_record.LogRecord.{LogRecord}
use Rattle.tablet_log.specs.Frames.{IsRecord, Holds}
use Rattle.tablet_log.specs.Entries.{logged_records, failed_records}
use Rattle.tablet_log.specs.Logged.{Logged}
use Rattle.tablet_log.specs.Rests.{RestsDown}
use Rattle.leased_log.specs.Allows.{AllowsAll}

-- the log of an actor with its clock, as contracts see it
pub record LogState : Type 0 where
  -- the bytes that the store holds, and its counts of faults and of loads
  pub held : List ℕ
  pub faults : ℕ
  pub loads : ℕ
  -- for how many more bytes the store has room, of which nothing is said over the entries
  pub room : ℕ
  pub clock : ClockState
  -- how many actions there were
  pub actions : ℕ
  -- the number of the action since which the actor is down
  pub down : Option ℕ
  -- how many records stand in the log, but for those of an append that failed
  pub records : ℕ

-- the store holds whole frames of records, and nothing else
pub record IsWhole (held : List ℕ) : Type 0 where
  pub records : List LogRecord
  pub holds : Holds held records

-- all records that may stand in the log
abbrev pub all_records : ℕ → History → List LogRecord
all_records lease h = logged_records lease h ++ failed_records lease h

-- It stands for these entries of the actor, the newest first, where its store held these bytes and had counted so many
-- faults when it was opened. While the actor is down only its log and its counts are told.
pub record Stands (a : Actor) (s : LogState) (bytes : List ℕ) (faults : ℕ) (h : History) : Type 0 where
  -- it was opened on an empty log
  pub opened : bytes ≡ []
  pub own : RestsDown a h
  -- each entry is one that the table allows after those before it
  pub allowed : AllowsAll s.clock.lease a h
  pub actions : s.actions ≡ length h
  pub down : s.down ≡ down_since h
  pub clock : down_since h ≡ None → s.clock ≡ clock_of s.clock.lease h
  pub logged : Logged s.clock.lease h (record { held = bytes; faults = faults }) (record { held = s.held; faults = s.faults })
  pub records : s.records ≡ length (logged_records s.clock.lease h)
  -- an action logs at most two records, each with a spelling, and an append that fails was of some
  pub few : length (all_records s.clock.lease h) ≤ 2 * length h
  pub spelled : AllByRecursion IsRecord (all_records s.clock.lease h)
  pub some : has_failed h ≡ true → failed_records s.clock.lease h ≡ [] → ⊥

-- nothing changed but the store's room and its counts
pub record IsSame (old new : LogState) : Type 0 where
  pub held : new.held ≡ old.held
  pub faults : old.faults ≤ new.faults
  pub loads : old.loads ≤ new.loads
  pub clock : new.clock ≡ old.clock
  pub actions : new.actions ≡ old.actions
  pub down : new.down ≡ old.down
  pub records : new.records ≡ old.records

-- it stands for what it stood for
abbrev pub StandsStill : LogState → LogState → Type 0
StandsStill old new = (a : Actor) (bytes : List ℕ) (faults : ℕ) (h : History) → Stands a old bytes faults h → Stands a new bytes faults h
