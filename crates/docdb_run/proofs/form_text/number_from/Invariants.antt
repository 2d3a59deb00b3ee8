use Rattle.std.proofs.Common.{◌≡◌, ◌≤◌, drop}
use Rattle.docdb_run.specs.Form.{number_from}
use Rattle.docdb_run.proofs.form_text.number_from.Given as goal

abbrev pub invariant-loop-digit : goal.invariant-loop-digit
invariant-loop-digit l = record {
  within : l.number ≤ l.most;
  same : number_from l.most l.number (drop l.digit-index l.digits) ≡ number_from l.most 0 l.digits;
}
