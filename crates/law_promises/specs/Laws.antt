-- The promises of a run, and which runs keep them.
use Rattle.txn_data.specs.declared.config.Config.{Config}
use Rattle.txn_types.specs.History.{History}
use Rattle.txn_types.specs.Plan.{PlacesAgree}
use Rattle.txn_types.specs.Run.{Run}
use Rattle.txn_promises.specs.Promises.{Promises}

-- every run in which places agree keeps its promises
abbrev pub RunsKeepPromises : Type 0
RunsKeepPromises = (config : Config) (h : History) → Run config h → PlacesAgree h → Promises config h
