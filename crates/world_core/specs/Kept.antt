-- What each history of a world keeps.
use Rattle.txn_data.specs.declared.config.Config.{Config}
use Rattle.txn_types.specs.History.{History}
use Rattle.txn_types.specs.Plan.{PlacesAgree}
use Rattle.txn_types.specs.Run.{Run}
use Rattle.txn_promises.specs.Promises.{Promises}
use Rattle.mover_chain.specs.NextEvent.{Given}
use Rattle.world_actors.specs.Standing.{FollowsGiven}

-- a history is a run of the cluster, follows the lines given, places agree in it, and its reads, commits and refusals keep the
-- promises of every run
pub record Keeps (config : Config) (given : Given) (h : History) : Type 0 where
  pub run : Run config h
  pub follows : FollowsGiven given h
  pub places : PlacesAgree h
  pub promises : Promises config h
