use Rattle.std.proofs.Common.{◌≡◌, ◌∙◌, ap, sym, arith, Err}
use Rattle.std.proofs.lemmas.Result.{err_from_is_err_and}
use Rattle.std.proofs.lemmas.Result.{IfOk-weaker}
use Rattle.docdb_run.specs.Form.{form_over, Later}
use Rattle.docdb_run.specs.declared.form_refusal.FormRefusal.TheVariants as why
use Rattle.docdb_run.proofs.FormLines.{lines_of-empty, more_lines, refused_line, form_of-within}
use Rattle.docdb_run.proofs.form.read_form.Goals as goal

pub returns-in_err-read-clause-later : goal.returns-in_err-read-clause-later
returns-in_err-read-clause-later c = λ line e.
    let p = err_from_is_err_and c.from_residual.result c.from_residual.ensures.1 in
    let was : c.read.result ≡ Err (why.Later line) = cc (p.1, p.2, e, c.in_err-read.was) in
    let refused = c.read.ensures.later line was in
    form_of-within c.args.script.now c.if-script-gt-MOST_BYTES.false
    ∙ (refused_line c.lines.reader c.lines.rest.now c.split_line.result.0.now c.split_line.result.1.now _ c.split_line.ensures.lines refused.1 c.lines.invariant.same ∙ ap Later (sym refused.0))

pub lines-preserved : goal.lines-preserved
lines-preserved c = record {
  line = omega (arith, c.in_ok-read.ensures.count, c.split_line.ensures.shorter, c.lines.invariant.line);
  same = more_lines c.lines.reader c.read.new.self c.lines.rest.now c.split_line.result.0.now c.split_line.result.1.now _ c.split_line.ensures.lines c.in_ok-read.ensures.ok c.lines.invariant.same;
}

pub returns-clause-accepted : goal.returns-clause-accepted
returns-clause-accepted c =
    let at_end = ap (form_over c.lines.reader) (lines_of-empty c.lines.rest.now c.lines-test.ensures) in
    IfOk-weaker c.finish.result _ _ (λ commands h. form_of-within c.args.script.now c.if-script-gt-MOST_BYTES.false ∙ (sym c.lines.invariant.same ∙ (at_end ∙ h))) c.finish.ensures.ok

pub returns-clause-later : goal.returns-clause-later
returns-clause-later c = λ line e.
    let at_end = ap (form_over c.lines.reader) (lines_of-empty c.lines.rest.now c.lines-test.ensures) in
    form_of-within c.args.script.now c.if-script-gt-MOST_BYTES.false ∙ (sym c.lines.invariant.same ∙ (at_end ∙ c.finish.ensures.later line e))
