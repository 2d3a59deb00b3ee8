use Rattle.std.proofs.Common.{reverse, take}
use Rattle.trace_merge.specs.Walked.{Walked}
use Rattle.trace_merge.proofs.walk.first_failed.Given as goal

abbrev pub invariant-loop-place : goal.invariant-loop-place
invariant-loop-place l = Walked l.skew_us (reverse (take l.place l.entries)) l.walk
