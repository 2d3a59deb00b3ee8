use Rattle.std.proofs.Common.{◌≡◌, ◌+◌, None, reverse, take}
use Rattle.trace_merge.specs.Clocks.{first_above}
use Rattle.trace_merge.proofs.skew.place_above.Given as goal

abbrev pub invariant-loop-place : goal.invariant-loop-place
invariant-loop-place l = first_above (l.own + l.skew_us) (reverse (take l.place l.entries)) ≡ None
