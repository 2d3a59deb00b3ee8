-- What holds of the times of a status tablet that stands for its entries.
use Rattle.std.specs.Prelude.{ℕ, List}
use Rattle.txn_types.specs.History.{History, counting}
use Rattle.tablet_log.specs.Entries.{logged_records}
use Rattle.tablet_log.specs.Replay.{lease_in}
use Rattle.leased_log.specs.Times.{Rise, AreLeased}
use Rattle.status_tablet.specs.Stands.{StatusState, Stands}

-- the times of the entries that count rise
abbrev pub TimesRise : Type 0
TimesRise = (s : StatusState) (bytes : List ℕ) (faults : ℕ) (h : History) → Stands s bytes faults h → Rise (counting h)

-- and the last lease in its log covers them
abbrev pub TimesAreLeased : Type 0
TimesAreLeased = (s : StatusState) (bytes : List ℕ) (faults : ℕ) (h : History) → Stands s bytes faults h
    → AreLeased (lease_in (logged_records s.log.clock.lease h)) (counting h)
