use Rattle.std.proofs.Common.{◌≡◌, take}
use Rattle.session_core.proofs.starting.copied.Given as goal

abbrev pub invariant-loop-limit : goal.invariant-loop-limit
invariant-loop-limit l = l.copy.items ≡ take l.limit-index l.limits
