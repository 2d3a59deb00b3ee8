use Rattle.std.proofs.Common.{◌≡◌, ◌++◌}
use Rattle.docdb_run.proofs.entries.record_all.Given as goal

abbrev pub invariant-loop-entry : goal.invariant-loop-entry
invariant-loop-entry l = l.trace.entries ≡ l.initial.trace.entries ++ l.yielded
