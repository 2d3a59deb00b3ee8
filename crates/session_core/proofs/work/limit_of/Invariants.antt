use Rattle.std.proofs.Common.{◌≡◌, drop}
use Rattle.txn_types.specs.ReadProgram.{limit_of as limit_in}
use Rattle.session_core.proofs.work.limit_of.Given as goal

abbrev pub invariant-loop-of : goal.invariant-loop-of
invariant-loop-of l = limit_in l.tablet l.limits ≡ limit_in l.tablet (drop l.of-index l.limits)
