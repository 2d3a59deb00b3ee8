-- What each finished read shows, in every run.
use Rattle.std.specs.Prelude.{◌≡◌, ℕ, ◌<◌, Some}
use Rattle.txn_data.specs.declared.config.Config.{Config}
use Rattle.txn_types.specs.Lists.{Member}
use Rattle.txn_types.specs.History.{History}
use Rattle.txn_types.specs.Plan.{PlacesAgree}
use Rattle.txn_types.specs.Reads.{Read, reads, inside, Right}
use Rattle.txn_types.specs.Run.{Run}
use Rattle.law_fates.specs.Laws.{CommittedAt}

-- a transaction commits, if it does, above the time of each finished read inside it
abbrev pub CommitsAreAboveReads : Type 0
CommitsAreAboveReads = (config : Config) (h : History) (read : Read) (y c : ℕ) → Run config h → Member read (reads h) → inside config read ≡ Some y → CommittedAt h y c → read.at < c

-- each finished read is right
abbrev pub ReadsAreRight : Type 0
ReadsAreRight = (config : Config) (h : History) (read : Read) → Run config h → PlacesAgree h → Member read (reads h) → Right config h read
