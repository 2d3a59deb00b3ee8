-- What a session refuses of its own, in every run.
use Rattle.txn_data.specs.declared.config.Config.{Config}
use Rattle.txn_data.specs.declared.told.Told.{Told}
use Rattle.txn_data.specs.declared.told.Told.TheVariants as told
use Rattle.txn_types.specs.Lists.{Member}
use Rattle.txn_types.specs.History.{History}
use Rattle.txn_types.specs.Run.{Run}
use Rattle.txn_types.specs.Cause.{ToldAt, tells}
use Rattle.txn_promises.specs.Leaves.{NothingAsked}
use Rattle.txn_promises.specs.Refuses.{AtOnce}

-- where it refuses of its own, nothing was asked
abbrev pub EarlyOf : ToldAt → Told → Type 0
EarlyOf t (told.Refused refusal) = NothingAsked t refusal
EarlyOf t u = Unit {0}

abbrev pub EarlyRefusal : ToldAt → Type 0
EarlyRefusal t = EarlyOf t t.told

-- a session's own refusals are told where their conditions hold, or out of memory is; and before anything is asked
abbrev pub RefusedAtOnce : Type 0
RefusedAtOnce = (config : Config) (h : History) (t : ToldAt) → Run config h → Member t (tells h) → AtOnce config t × EarlyRefusal t
