use Rattle.std.proofs.Common.{◌≡◌, false, length, ◌*◌}
use Rattle.actor_table.specs.Steps.{has_arrived}
use Rattle.mover_tests.proofs.stages.ask_many.Given as goal

abbrev pub invariant-loop-round : goal.invariant-loop-round
invariant-loop-round g l =
    (l.seat.table ≡ g.N.StageName.table) × (length l.seat.at.own ≡ 2 * l.round) × (has_arrived l.seat.at.held ≡ false)
