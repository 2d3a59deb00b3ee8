use Rattle.std.proofs.Common.{reverse, take}
use Rattle.report_text.specs.Walk.{Saw}
use Rattle.report_text.proofs.seen.Seen.of.Given as goal

abbrev pub invariant-loop-entry : goal.invariant-loop-entry
invariant-loop-entry l = Saw l.config (reverse (take l.entry-index l.entries)) l.seen.sessions.items l.seen.passes.items l.seen.counts
