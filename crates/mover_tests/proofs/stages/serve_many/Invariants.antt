use Rattle.std.proofs.Common.{◌≡◌, false, length}
use Rattle.actor_table.specs.Steps.{has_message}
use Rattle.mover_tests.proofs.stages.serve_many.Given as goal

abbrev pub invariant-loop-round : goal.invariant-loop-round
invariant-loop-round g l =
    (l.seat.table ≡ g.N.StageName.table) × (length l.seat.at.own ≡ l.round) × (has_message l.seat.at.held ≡ false)
