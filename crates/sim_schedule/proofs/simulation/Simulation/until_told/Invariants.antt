use Rattle.std.proofs.Common.{◌-◌, ◌^◌, length}
use Rattle.txn_types.specs.Script.{actor_of}
use Rattle.world_core.specs.World.{recorded}
use Rattle.sim_schedule.specs.Stands.{HasNext}
use Rattle.sim_schedule.proofs.Ways.{Untold, Way}
use Rattle.sim_schedule.proofs.simulation.Simulation.until_told.Given as goal

abbrev pub invariant-loop-at : goal.invariant-loop-at
invariant-loop-at g l = Way l.initial.self.world l.initial.self.clocks.items l.self.world l.self.clocks.items (Untold l.initial.self.world l.self.world (actor_of l.who)) × HasNext l.self.world l.self.clocks.items (actor_of l.who)

abbrev pub decreases-loop-at : goal.decreases-loop-at
decreases-loop-at g l = 2 ^ 64 - length (recorded l.self.world)
