use Rattle.std.proofs.Common.{◌≡◌, take}
use Rattle.txn_data.specs.declared.read_kind.ReadKind.TheVariants.{Get}
use Rattle.txn_types.specs.ReadProgram.{all_rows}
use Rattle.read_plan.specs.Found.{all_seen}
use Rattle.read_plan.proofs.rows.rows_of_places.Given as goal

abbrev pub invariant-loop-place : goal.invariant-loop-place
invariant-loop-place l = l.rows ≡ all_rows Get (take l.place-index l.places) (all_seen l.found)
