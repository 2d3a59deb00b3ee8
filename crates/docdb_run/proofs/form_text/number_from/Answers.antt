use Rattle.std.proofs.Common.{◌∙◌, sym}
use Rattle.docdb_run.proofs.FormText.{number_from-none, number_from-more, number_from-end}
use Rattle.docdb_run.proofs.form_text.number_from.Goals as goal

pub returns-in_default-clause-value : goal.returns-in_default-clause-value
returns-in_default-clause-value c =
    number_from-none c.args.most c.loop-digit.number c.args.digits.now c.loop-digit.digit-index 0 _ c.loop-digit-test.true
    (sym c.with_digit.ensures.value ∙ c.in_default.is) c.loop-digit.invariant.same

pub loop-digit-preserved : goal.loop-digit-preserved
loop-digit-preserved c = record {
  within = c.in-Some.ensures.most;
  same = number_from-more c.args.most c.loop-digit.number c.in-Some.longer c.args.digits.now c.loop-digit.digit-index 0 _ c.loop-digit-test.true
      (sym c.with_digit.ensures.value ∙ c.in-Some.is) c.loop-digit.invariant.same;
}

pub returns-clause-value : goal.returns-clause-value
returns-clause-value c =
    sym (number_from-end c.args.most c.loop-digit.number c.args.digits.now c.loop-digit.digit-index c.loop-digit-test.false) ∙ c.loop-digit.invariant.same
