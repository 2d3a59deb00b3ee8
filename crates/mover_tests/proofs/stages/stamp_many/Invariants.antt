use Rattle.std.proofs.Common.{◌≡◌, false, length}
use Rattle.actor_table.specs.Steps.{has_arrived}
use Rattle.mover_tests.proofs.stages.stamp_many.Given as goal

abbrev pub invariant-loop-command : goal.invariant-loop-command
invariant-loop-command l =
    (l.seat.table ≡ l.fn.seat.table) × (length l.seat.at.own ≡ l.command) × (has_arrived l.seat.at.held ≡ false)
