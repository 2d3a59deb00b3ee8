use Rattle.sim_schedule.proofs.Parts.{GoneTo}
use Rattle.sim_schedule.proofs.go.go.Given as goal

abbrev pub invariant-loop-line : goal.invariant-loop-line
invariant-loop-line g l = GoneTo l.config l.plan l.line-index l.initial.simulation.world l.initial.simulation.clocks.items l.simulation.world l.simulation.clocks.items
