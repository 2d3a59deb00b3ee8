use Rattle.std.proofs.Common.{◌-◌, ◌^◌, length}
use Rattle.world_core.specs.World.{recorded}
use Rattle.sim_schedule.proofs.Draws.{DrawnOn}
use Rattle.sim_schedule.proofs.drawn.drawn.Given as goal

abbrev pub invariant-loop-generator : goal.invariant-loop-generator
invariant-loop-generator g l = DrawnOn l.config l.plan l.generator.state l.working.items l.initial.simulation.world l.initial.simulation.clocks.items l.simulation.world l.simulation.clocks.items

abbrev pub decreases-loop-generator : goal.decreases-loop-generator
decreases-loop-generator g l = 2 ^ 64 - length (recorded l.simulation.world)
