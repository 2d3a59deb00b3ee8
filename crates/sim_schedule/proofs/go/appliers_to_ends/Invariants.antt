use Rattle.sim_schedule.proofs.Parts.{AppliedTo}
use Rattle.sim_schedule.proofs.go.appliers_to_ends.Given as goal

abbrev pub invariant-loop-tablet : goal.invariant-loop-tablet
invariant-loop-tablet g l = AppliedTo l.config l.tablet l.initial.simulation.world l.initial.simulation.clocks.items l.simulation.world l.simulation.clocks.items
