use Rattle.std.proofs.Common.{◌≡◌, drop}
use Rattle.txn_types.specs.ReadProgram.{rows_from as rows_at}
use Rattle.read_plan.specs.Found.{all_seen}
use Rattle.read_plan.proofs.rows.rows_from.Given as goal

abbrev pub invariant-loop-of : goal.invariant-loop-of
invariant-loop-of l = rows_at l.tablet (all_seen l.found) ≡ rows_at l.tablet (all_seen (drop l.of-index l.found))
