use Rattle.std.proofs.Common.{◌≡◌, ◌++◌, take, drop}
use Rattle.txn_types.specs.Lists.{with_number}
use Rattle.read_plan.proofs.places.place_of.Given as goal

abbrev pub invariant-loop-i : goal.invariant-loop-i
invariant-loop-i l = with_number l.number l.numbers ≡ take l.i l.numbers ++ with_number l.number (drop l.i l.numbers)
