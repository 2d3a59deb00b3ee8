-- What holds of the times of an actor whose log stands for its entries, over restarts, and with failed appends that the log
-- kept or lost.
use Rattle.std.specs.Prelude.{ℕ, List}
use Rattle.txn_data.specs.declared.actor.Actor.{Actor}
use Rattle.txn_types.specs.History.{History, counting}
use Rattle.tablet_log.specs.Entries.{logged_records}
use Rattle.tablet_log.specs.Replay.{lease_in}
use Rattle.leased_log.specs.Stands.{LogState, Stands}
use Rattle.leased_log.specs.Times.{Rise, AreLeased}

-- the times of the entries that count rise
abbrev pub TimesRise : Type 0
TimesRise = (a : Actor) (s : LogState) (bytes : List ℕ) (faults : ℕ) (h : History) → Stands a s bytes faults h → Rise (counting h)

-- and the last lease in the log covers them
abbrev pub TimesAreLeased : Type 0
TimesAreLeased = (a : Actor) (s : LogState) (bytes : List ℕ) (faults : ℕ) (h : History) → Stands a s bytes faults h
    → AreLeased (lease_in (logged_records s.clock.lease h)) (counting h)
