use Rattle.std.proofs.Common.{◌∷◌, [], arith}
use Rattle.std.proofs.lemmas.List.{length-append}
use Rattle.std.proofs.lemmas.Result.{err_from_is_err_and}
use Rattle.log_record.specs.Reading.{bytes_at}
use Rattle.log_record.proofs.Each.{each_more, each_fails, each_done}
use Rattle.log_record.proofs.fields.parts_at.Goals as goal

pub returns-in_err-part-clause-value : goal.returns-in_err-part-clause-value
returns-in_err-part-clause-value c =
    let p = err_from_is_err_and c.from_residual.result c.from_residual.ensures.1 in
    rw (p.1, p.2) (each_fails bytes_at c.args.count c.loop.counter c.args.whole c.loop.path c.loop.rest.now c.in_err-part.field-0.0 _ c.loop-test.true c.in_err-part.ensures.value c.loop.invariant.0)

pub loop-preserved : goal.loop-preserved
loop-preserved c =
    let next = each_more bytes_at c.args.count c.loop.counter c.args.whole c.loop.path c.loop.rest.now c.in_ok-part.after.now c.in_ok-part.part.now _ c.loop-test.true c.in_ok-part.ensures.value c.loop.invariant.0 in
    rw c.in_ok-path.ensures.ok (next, omega (arith, c.in_ok-part.ensures.rest), omega (arith, c.loop.invariant.2, length-append c.loop.path (c.in_ok-part.part.now ∷ [])))

pub returns-clause-value : goal.returns-clause-value
returns-clause-value c =
    each_done bytes_at _ c.args.whole c.loop.path c.loop.rest.now _ (omega arith) c.loop.invariant.0
