use Rattle.std.proofs.Common.{◌-◌, ◌^◌, length}
use Rattle.txn_types.specs.Script.{actor_of}
use Rattle.world_core.specs.World.{recorded}
use Rattle.sim_schedule.proofs.Ways.{MovedSome, Way}
use Rattle.sim_schedule.proofs.simulation.Simulation.to_end.Given as goal

abbrev pub invariant-loop-who : goal.invariant-loop-who
invariant-loop-who g l = Way l.initial.self.world l.initial.self.clocks.items l.self.world l.self.clocks.items (MovedSome l.initial.self.world l.self.world (actor_of l.who))

abbrev pub decreases-loop-who : goal.decreases-loop-who
decreases-loop-who g l = 2 ^ 64 - length (recorded l.self.world)
