use Rattle.std.proofs.Common.{◌≡◌, None, replicate}
use Rattle.report_text.proofs.seen.no_passes.Given as goal

abbrev pub invariant-loop-tablet : goal.invariant-loop-tablet
invariant-loop-tablet l = l.passes.items ≡ replicate l._tablet None
