use Rattle.std.proofs.Common.{◌≡◌, ◌+◌, ◌++◌}
use Rattle.std.specs.VecDeque.{deque_len}
use Rattle.txn_types.specs.Session.{with_rows}
use Rattle.own_writes.specs.Merging.{Rise}
use Rattle.own_writes.proofs.merging.merged.Given as goal

abbrev pub invariant-loop-row : goal.invariant-loop-row
invariant-loop-row l = (l.all ++ with_rows l.rows.items l.others.items ≡ with_rows l.initial.rows.items l.initial.others.items) × Rise l.rows.items

abbrev pub decreases-loop-row : goal.decreases-loop-row
decreases-loop-row l = deque_len l.rows + deque_len l.others
