-- The actors of a cluster, as contracts see them.
use Rattle.txn_data.specs.declared.config.Config.{Config}
use Rattle.world_machines.specs.Machines.{MachinesState}
use Rattle.world_movers.specs.declared.movers.Movers.{Movers}

-- the cluster's numbers, its movers, and its machines with their stores
pub record ActorsState (L : Type 0) : Type 0 where
  pub config : Config
  pub movers : Movers
  pub machines : MachinesState L
