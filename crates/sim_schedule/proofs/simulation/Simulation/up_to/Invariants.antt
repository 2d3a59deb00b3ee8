use Rattle.txn_types.specs.Script.{actor_of}
use Rattle.sim_schedule.proofs.Ways.{MovedSo, Way}
use Rattle.sim_schedule.proofs.simulation.Simulation.up_to.Given as goal

abbrev pub invariant-loop-move : goal.invariant-loop-move
invariant-loop-move g l = Way l.initial.self.world l.initial.self.clocks.items l.self.world l.self.clocks.items (MovedSo l.initial.self.world l.self.world (actor_of l.who) l._move)
