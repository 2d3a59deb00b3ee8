use Rattle.std.proofs.Common.{arith}
use Rattle.std.proofs.lemmas.Result.{err_from_is_err_and}
use Rattle.log_record.specs.Reading.{u32_at}
use Rattle.log_record.proofs.Each.{each_more, each_fails, each_done}
use Rattle.log_record.proofs.fields.numbers_at.Goals as goal

pub returns-in_err-number-clause-value : goal.returns-in_err-number-clause-value
returns-in_err-number-clause-value c =
    let p = err_from_is_err_and c.from_residual.result c.from_residual.ensures.1 in
    rw (p.1, p.2) (each_fails u32_at c.args.count c.loop.counter c.args.whole c.loop.numbers.items c.loop.rest.now c.in_err-number.field-0.0 _ c.loop-test.true c.in_err-number.ensures.value c.loop.invariant.0)

pub loop-preserved : goal.loop-preserved
loop-preserved c =
    let next = each_more u32_at c.args.count c.loop.counter c.args.whole c.loop.numbers.items c.loop.rest.now c.in_ok-number.after.now c.in_ok-number.number _ c.loop-test.true c.in_ok-number.ensures.value c.loop.invariant.0 in
    rw c.in_ok-push.ensures.items (next, omega (arith, c.in_ok-number.ensures.rest))

pub returns-clause-value : goal.returns-clause-value
returns-clause-value c =
    each_done u32_at _ c.args.whole c.loop.numbers.items c.loop.rest.now _ (omega arith) c.loop.invariant.0
