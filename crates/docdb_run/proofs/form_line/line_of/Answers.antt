use Rattle.std.proofs.Common.{ap, sym, ◌∙◌}
use Rattle.std.proofs.lemmas.Result.{IfOk-weaker}
use Rattle.docdb_run.specs.Form.{third_of}
use Rattle.docdb_run.proofs.FormLine.{line_of-put, line_of-read, line_of-last}
use Rattle.docdb_run.proofs.form_line.line_of.Goals as goal

pub returns-in-Some : goal.returns-in-Some
returns-in-Some c = IfOk-weaker c.put_line.result _ _
    (λ told h. h ∙ sym (line_of-put c.args.clock c.args.line.now c.in-Some.bytes.now c.if-is_empty.ensures c.in-Some.ensures)) c.put_line.ensures

pub returns-in-Some-after_text : goal.returns-in-Some-after_text
returns-in-Some-after_text c = IfOk-weaker c.read_line.result _ _
    (λ told h. h ∙ sym (line_of-read c.args.clock c.args.line.now c.in-Some-after_text.bytes.now c.if-is_empty.ensures c.in_default.ensures c.in-Some-after_text.ensures)) c.read_line.ensures

pub returns-in_default-after_text-2 : goal.returns-in_default-after_text-2
returns-in_default-after_text-2 c =
    sym (line_of-last c.args.clock c.args.line.now c.if-is_empty.ensures c.in_default.ensures c.in_default-after_text.ensures
    ∙ ap (third_of c.args.clock) (sym c.in_default-after_text-2.ensures))

pub returns : goal.returns
returns c =
    c.clock_line.ensures ∙ sym (line_of-last c.args.clock c.args.line.now c.if-is_empty.ensures c.in_default.ensures c.in_default-after_text.ensures
    ∙ ap (third_of c.args.clock) (sym c.in-Some-after_text-2.ensures))
