use Rattle.std.proofs.Common.{◌≡◌, take}
use Rattle.regular_records.proofs.prefix_words.shared.Given as goal

abbrev pub invariant-loop-i : goal.invariant-loop-i
invariant-loop-i l = take l.i l.path ≡ take l.i l.other
