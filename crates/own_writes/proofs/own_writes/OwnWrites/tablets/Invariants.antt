use Rattle.std.proofs.Common.{◌≡◌, take}
use Rattle.own_writes.proofs.own_writes.OwnWrites.tablets.Given as goal

abbrev pub invariant-loop-tablet : goal.invariant-loop-tablet
invariant-loop-tablet l = l.tablets ≡ take l.tablet-index l.tablet-items
