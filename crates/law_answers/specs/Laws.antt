-- Each command has its answer, in every run.
use Rattle.txn_data.specs.declared.config.Config.{Config}
use Rattle.txn_types.specs.Lists.{Member}
use Rattle.txn_types.specs.History.{History}
use Rattle.txn_types.specs.Run.{Run}
use Rattle.txn_types.specs.Cause.{ToldAt, tells}
use Rattle.txn_promises.specs.Answers.{IsAnswered}

-- what a session or an applier is told is a refusal, or an answer that its command may have, and names its transaction
abbrev pub EachCommandHasItsAnswer : Type 0
EachCommandHasItsAnswer = (config : Config) (h : History) (t : ToldAt) → Run config h → Member t (tells h) → IsAnswered config t
