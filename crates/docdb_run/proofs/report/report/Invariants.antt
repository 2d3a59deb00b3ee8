use Rattle.docdb_run.specs.Text.{report_lines}
use Rattle.docdb_run.proofs.ReportLines.{WithLines}
use Rattle.docdb_run.proofs.report.report.Given as goal

abbrev pub invariant-loop-at : goal.invariant-loop-at
invariant-loop-at l = WithLines l.text.items l.commands l.told l.at (report_lines 1 l.commands l.told)
