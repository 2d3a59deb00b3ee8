use Rattle.std.proofs.Common.{◌≡◌, drop}
use Rattle.txn_types.specs.ReadProgram.{row_of as row_in}
use Rattle.read_plan.proofs.rows.row_of.Given as goal

abbrev pub invariant-loop-row : goal.invariant-loop-row
invariant-loop-row l = row_in l.path l.rows ≡ row_in l.path (drop l.row-index l.rows)
