use Rattle.std.proofs.Common.{◌≡◌, ◌++◌}
use Rattle.tablet_records.proofs.considered.push_all.Given as goal

abbrev pub invariant-loop-row : goal.invariant-loop-row
invariant-loop-row l = l.rows ++ l.row-iterator.rest.items ≡ l.fn.rows ++ l.fn.more
