-- The window of each finished read in every run: where it ends, and that what was known before the read lies in it.
use Rattle.std.specs.Prelude.{◌≡◌, ℕ, ◌≤◌, Some}
use Rattle.doc_path.specs.Path.{Parts}
use Rattle.txn_data.specs.declared.committed_txn.CommittedTxn.{CommittedTxn}
use Rattle.txn_data.specs.declared.config.Config.{Config}
use Rattle.txn_data.specs.declared.entry.Entry.{Entry}
use Rattle.txn_types.specs.Lists.{Member}
use Rattle.txn_types.specs.History.{History}
use Rattle.txn_types.specs.Session.{Opened}
use Rattle.txn_types.specs.Reads.{Read, reads, opened_at, own_window, known, SkewHeld}
use Rattle.txn_types.specs.Run.{Run}
use Rattle.law_machines.specs.Own.{time_of}
use Rattle.law_write_order.specs.Laws.{IsCommittedWrite}

-- a read inside a transaction has the window of its begin
abbrev pub WindowsAreOfBegins : Type 0
WindowsAreOfBegins = (config : Config) (h : History) (read : Read) (x : Opened) → Run config h → Member read (reads h) → opened_at config read ≡ Some x → x.g ≡ own_window config read

-- where clocks agree within the skew, what was known before the read is committed not after the end of its window
abbrev pub KnownCommitsAreInWindows : Type 0
KnownCommitsAreInWindows = (config : Config) (h : History) (read : Read) (x : CommittedTxn) → Run config h → Member read (reads h) → SkewHeld config config.skew_us read →
    Member x (known config h read) → x.at ≤ own_window config read

-- and neither are the times of its writes
abbrev pub KnownWritesAreInWindows : Type 0
KnownWritesAreInWindows = (config : Config) (h : History) (read : Read) (x : CommittedTxn) (e : Entry) (path : Parts) (w : ℕ) → Run config h → Member read (reads h) → SkewHeld config config.skew_us read →
    Member x (known config h read) → Member e h → IsCommittedWrite h x.txn x.at path e e.event → time_of e.event ≡ Some w → w ≤ own_window config read
