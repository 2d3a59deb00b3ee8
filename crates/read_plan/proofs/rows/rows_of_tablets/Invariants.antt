use Rattle.std.proofs.Common.{◌≡◌, take}
use Rattle.std.specs.Prelude.{flat_map}
use Rattle.txn_types.specs.ReadProgram.{TabletRows}
use Rattle.read_plan.specs.Found.{all_seen}
use Rattle.read_plan.proofs.rows.rows_of_tablets.Given as goal

abbrev pub invariant-loop-of : goal.invariant-loop-of
invariant-loop-of l = l.rows ≡ flat_map (λ (f : TabletRows). f.rows) (all_seen (take l.of-index l.found))
