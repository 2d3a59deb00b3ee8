use Rattle.std.proofs.Common.{◌≡◌, vec_len}
use Rattle.actor_table.proofs.Closing.{Gathered}
use Rattle.actor_table.proofs.stage.Stage.close_all.Given as goal

abbrev pub invariant-loop-next : goal.invariant-loop-next
invariant-loop-next l = (l.first.table_id ≡ l.table.shared.table_id) × Gathered l.fn.seats.items l.seats.items l.first.me

abbrev pub decreases-loop-next : goal.decreases-loop-next
decreases-loop-next l = vec_len l.seats
