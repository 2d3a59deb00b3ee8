use Rattle.std.proofs.Common.{◌∙◌, ap, sym}
use Rattle.docdb_run.specs.Form.{Reading, Accepted}
use Rattle.docdb_run.proofs.FormLines.{no_lines, end_of_lines}
use Rattle.docdb_run.proofs.form_reader.FormReader.finish.Goals as goal

pub returns-then-self-eq1-clause-later : goal.returns-then-self-eq1-clause-later
returns-then-self-eq1-clause-later c = λ n e.
    let one = no_lines c.args.self (sym (ap (λ (r : Reading). r.line) c.self.view_is) ∙ c.if-self-eq1.true) in cc

pub returns-clause-ok : goal.returns-clause-ok
returns-clause-ok c =
    let line = ap (λ (r : Reading). r.line) c.self.view_is in
    end_of_lines c.args.self (λ h. c.if-self-eq1.false (line ∙ h)) ∙ ap (λ (r : Reading). Accepted r.commands) (sym c.self.view_is)
