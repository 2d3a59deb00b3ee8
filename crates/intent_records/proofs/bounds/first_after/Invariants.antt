use Rattle.std.proofs.Common.{◌≡◌, take}
use Rattle.intent_records.proofs.bounds.first_after.Given as goal

abbrev pub invariant-loop-i : goal.invariant-loop-i
invariant-loop-i l = l.after ≡ take l.i l.path
