use Rattle.sim_schedule.proofs.Parts.{EndedTo}
use Rattle.sim_schedule.proofs.sessions.sessions_to_ends.Given as goal

abbrev pub invariant-loop-one : goal.invariant-loop-one
invariant-loop-one g l = EndedTo l.plan l.one-index l.initial.simulation.world l.initial.simulation.clocks.items l.simulation.world l.simulation.clocks.items
