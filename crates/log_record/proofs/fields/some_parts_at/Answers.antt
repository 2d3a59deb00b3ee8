use Rattle.std.proofs.lemmas.Result.{err_from_is_err_and}
use Rattle.log_record.specs.Reading.{bytes_at}
use Rattle.log_record.proofs.Each.{each_first, each_first_fails}
use Rattle.log_record.proofs.fields.some_parts_at.Goals as goal

pub returns-in_err-first-clause-value : goal.returns-in_err-first-clause-value
returns-in_err-first-clause-value c =
    let p = err_from_is_err_and c.from_residual.result c.from_residual.ensures.1 in
    rw (p.1, p.2) (each_first_fails bytes_at c.args.count c.args.whole c.args.bytes.now c.in_err-first.field-0.0 c.requires.some c.in_err-first.ensures.value)

pub returns-clause-value : goal.returns-clause-value
returns-clause-value c =
    let split = each_first bytes_at c.args.count c.args.whole c.args.bytes.now c.in_ok-first.rest.now c.in_ok-first.first.now c.requires.some c.in_ok-first.ensures.value in
    let given = rw c.in_ok-of.ensures at c.parts_at.ensures.value in
    rw split given
