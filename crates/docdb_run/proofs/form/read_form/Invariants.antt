use Rattle.std.proofs.Common.{◌≡◌, ◌≤◌, ◌+◌, length}
use Rattle.docdb_run.specs.Form.{at_first, form_over, lines_of}
use Rattle.docdb_run.proofs.form.read_form.Given as goal

abbrev pub invariant-lines : goal.invariant-lines
invariant-lines l = record {
  line : l.reader.line + length l.rest ≤ length l.script + 1;
  same : form_over l.reader (lines_of l.rest) ≡ form_over at_first (lines_of l.script);
}

abbrev pub decreases-lines : goal.decreases-lines
decreases-lines l = length l.rest
