-- Reads are fresh, in every run.
use Rattle.txn_data.specs.declared.config.Config.{Config}
use Rattle.txn_types.specs.Lists.{Member}
use Rattle.txn_types.specs.History.{History}
use Rattle.txn_types.specs.Plan.{PlacesAgree}
use Rattle.txn_types.specs.Reads.{Read, reads, SkewHeld, Fresh}
use Rattle.txn_types.specs.Run.{Run}

-- where clocks agree within the skew, each finished read is fresh
abbrev pub ReadsAreFresh : Type 0
ReadsAreFresh = (config : Config) (h : History) (read : Read) → Run config h → PlacesAgree h → Member read (reads h) → SkewHeld config config.skew_us read → Fresh config h read
