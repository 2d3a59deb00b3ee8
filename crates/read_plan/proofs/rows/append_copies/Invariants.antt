use Rattle.std.proofs.Common.{◌≡◌, ◌++◌, take}
use Rattle.read_plan.proofs.rows.append_copies.Given as goal

abbrev pub invariant-loop-row : goal.invariant-loop-row
invariant-loop-row l = l.rows ≡ l.initial.rows ++ take l.row-index l.items
