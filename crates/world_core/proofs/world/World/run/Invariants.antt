use Rattle.std.proofs.Common.{◌≡◌, List, take}
use Rattle.txn_data.specs.declared.actor.Actor.{Actor}
use Rattle.txn_data.specs.declared.config.Config.{Config}
use Rattle.tablet_log.specs.Logged.{Store}
use Rattle.mover_chain.specs.NextEvent.{Given}
use Rattle.world_core.specs.Runs.{Leads}
use Rattle.world_core.specs.World.{StandsFor, recorded}
use Rattle.world_core.proofs.world.World.run.Given as goal

abbrev pub invariant-loop-one : goal.invariant-loop-one
invariant-loop-one g l =
    (l.self.actors.config ≡ l.fn.self.actors.config)
    × ((config : Config) (given : Given) (start : Actor → Store) (spare : List g.row.L.Denot) → StandsFor config given start spare l.fn.self → StandsFor config given start spare l.self × Leads given config (take l.one-index l.list) (recorded l.fn.self) (recorded l.self))
