-- Each refusal that is told has its cause, in every run.
use Rattle.txn_data.specs.declared.config.Config.{Config}
use Rattle.txn_types.specs.Lists.{Member}
use Rattle.txn_types.specs.History.{History}
use Rattle.txn_types.specs.Run.{Run}
use Rattle.txn_types.specs.Cause.{ToldAt, tells, Cause}

-- each refusal that a session or an applier is told has its cause
abbrev pub EachRefusalHasItsCause : Type 0
EachRefusalHasItsCause = (config : Config) (h : History) (t : ToldAt) → Run config h → Member t (tells h) → Cause config t
