-- What a refusal leaves, and where it is told, in every run.
use Rattle.txn_data.specs.declared.config.Config.{Config}
use Rattle.txn_types.specs.Lists.{Member}
use Rattle.txn_types.specs.History.{History}
use Rattle.txn_types.specs.Run.{Run}
use Rattle.txn_types.specs.Cause.{ToldAt, tells}
use Rattle.txn_promises.specs.Leaves.{Leaves}
use Rattle.txn_promises.specs.Refuses.{Decides}

-- each refusal that is told leaves what it may
abbrev pub RefusalsLeave : Type 0
RefusalsLeave = (config : Config) (h : History) (t : ToldAt) → Run config h → Member t (tells h) → Leaves config h t

-- a command that meets the condition of a refusal, with no earlier one in its place, is told it, or out of memory
abbrev pub ConditionsDecide : Type 0
ConditionsDecide = (config : Config) (h : History) (t : ToldAt) → Run config h → Member t (tells h) → Decides config t
