-- What holds of the times of a tablet that stands for its entries.
use Rattle.std.specs.Prelude.{ℕ, List}
use Rattle.txn_data.specs.declared.version.Version.{Version}
use Rattle.txn_types.specs.History.{History, counting}
use Rattle.tablet_log.specs.Entries.{logged_records}
use Rattle.tablet_log.specs.Replay.{lease_in}
use Rattle.leased_log.specs.Times.{Rise, AreLeased}
use Rattle.tablet_core.specs.Stands.{CoreState, Stands}

-- the times of the entries that count rise
abbrev pub TimesRise : {V : Type 0} → (V → List Version → Type 0) → CoreState V → Type 0
TimesRise holds s = (bytes : List ℕ) (faults : ℕ) (h : History) → Stands holds s bytes faults h → Rise (counting h)

-- and the last lease in its log covers them
abbrev pub TimesAreLeased : {V : Type 0} → (V → List Version → Type 0) → CoreState V → Type 0
TimesAreLeased holds s = (bytes : List ℕ) (faults : ℕ) (h : History) → Stands holds s bytes faults h
    → AreLeased (lease_in (logged_records s.log.clock.lease h)) (counting h)
