use Rattle.sim_schedule.proofs.Parts.{LinesTo, RoundsTo}
use Rattle.sim_schedule.proofs.serial.serial.Given as goal

abbrev pub invariant-loop-number : goal.invariant-loop-number
invariant-loop-number g l = LinesTo l.config l.plan l.number-index l.fn.simulation.world l.fn.simulation.clocks.items l.simulation.world l.simulation.clocks.items

abbrev pub invariant-loop-round : goal.invariant-loop-round
invariant-loop-round g l = RoundsTo l.config l.plan l._round l.fn.simulation.world l.fn.simulation.clocks.items l.simulation.world l.simulation.clocks.items
