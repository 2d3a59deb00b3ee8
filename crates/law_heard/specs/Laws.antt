-- What is heard decides what is told, in every run.
use Rattle.txn_data.specs.declared.config.Config.{Config}
use Rattle.txn_types.specs.Lists.{Member}
use Rattle.txn_types.specs.History.{History}
use Rattle.txn_types.specs.Run.{Run}
use Rattle.txn_types.specs.Cause.{ToldAt, tells}
use Rattle.txn_promises.specs.Refuses.{HeardDecides}

-- what was served for a command decides which refusal it is told
abbrev pub HeardIsTold : Type 0
HeardIsTold = (config : Config) (h : History) (t : ToldAt) → Run config h → Member t (tells h) → HeardDecides config t
