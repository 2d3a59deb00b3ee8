use Rattle.sim_schedule.proofs.Parts.{PassedTo}
use Rattle.sim_schedule.proofs.passes.passes.Given as goal

abbrev pub invariant-loop-tablet : goal.invariant-loop-tablet
invariant-loop-tablet g l = PassedTo l.config l.tablet l.initial.simulation.world l.initial.simulation.clocks.items l.simulation.world l.simulation.clocks.items
