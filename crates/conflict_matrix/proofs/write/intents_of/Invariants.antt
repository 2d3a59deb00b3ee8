use Rattle.std.proofs.Common.{◌≡◌, take}
use Rattle.std.specs.Prelude.{flat_map}
use Rattle.conflict_matrix.specs.Conflict.{weak_at, paths_above}
use Rattle.conflict_matrix.proofs.write.intents_of.Given as goal

abbrev pub invariant-loop-i : goal.invariant-loop-i
invariant-loop-i l = record {
  above : l.above ≡ take l.i l.path;
  intents : l.intents.items ≡ flat_map weak_at (paths_above (take l.i l.path));
}
