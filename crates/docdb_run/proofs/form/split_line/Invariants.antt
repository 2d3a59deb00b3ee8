use Rattle.docdb_run.proofs.FormLines.{IsFront}
use Rattle.docdb_run.proofs.form.split_line.Given as goal

abbrev pub invariant-loop-at : goal.invariant-loop-at
invariant-loop-at l = IsFront l.bytes l.at
