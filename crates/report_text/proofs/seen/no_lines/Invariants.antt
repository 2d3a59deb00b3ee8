use Rattle.std.proofs.Common.{◌≡◌, replicate}
use Rattle.report_text.specs.Walk.{nothing_shown}
use Rattle.report_text.proofs.seen.no_lines.Given as goal

abbrev pub invariant-loop-session : goal.invariant-loop-session
invariant-loop-session l = l.sessions.items ≡ replicate l._session nothing_shown
