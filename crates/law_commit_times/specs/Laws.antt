-- Commit times against read times, in every run.
use Rattle.std.specs.Prelude.{ℕ, ◌<◌}
use Rattle.txn_data.specs.declared.config.Config.{Config}
use Rattle.txn_types.specs.History.{History}
use Rattle.txn_types.specs.Reads.{read_time}
use Rattle.txn_types.specs.Run.{Run}
use Rattle.law_fates.specs.Laws.{CommittedAt}

-- each transaction commits, if it does, above its read time
abbrev pub CommitsAreAboveReadTimes : Type 0
CommitsAreAboveReadTimes = (config : Config) (h : History) (x c : ℕ) → Run config h → CommittedAt h x c → read_time config h x < c
