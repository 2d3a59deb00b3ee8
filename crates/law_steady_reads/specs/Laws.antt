-- What each finished read is told of its time in every run.
use Rattle.txn_data.specs.declared.config.Config.{Config}
use Rattle.txn_types.specs.Lists.{Member}
use Rattle.txn_types.specs.History.{History}
use Rattle.txn_types.specs.Reads.{Read, reads, IsFinal, Steady}
use Rattle.txn_types.specs.Run.{Run}

-- each finished read is told its final time, and how often it met something
abbrev pub ReadsAreFinal : Type 0
ReadsAreFinal = (config : Config) (h : History) (read : Read) → Run config h → Member read (reads h) → IsFinal config read

-- each finished read is steady
abbrev pub ReadsAreSteady : Type 0
ReadsAreSteady = (config : Config) (h : History) (read : Read) → Run config h → Member read (reads h) → Steady config h read
