use Rattle.std.proofs.Common.{◌≡◌, ◌+◌, ◌≤◌, length, drop}
use Rattle.txn_types.specs.ReadProgram.{tablets_of as tablets_at}
use Rattle.read_plan.proofs.places.tablets_of.Given as goal

abbrev pub invariant-loop-i : goal.invariant-loop-i
invariant-loop-i l = record {
  tablets : l.tablets.items ≡ tablets_at (drop l.i l.places);
  few : length l.tablets.items + l.i ≤ length l.places;
}
