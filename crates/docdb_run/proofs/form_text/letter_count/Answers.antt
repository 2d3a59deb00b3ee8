use Rattle.std.proofs.Common.{arith}
use Rattle.std.proofs.lemmas.Grind.{common_steps}
use Rattle.docdb_run.proofs.FormText.{letter_count-at, letter_count-end}
use Rattle.docdb_run.proofs.form_text.letter_count.Goals as goal

pub returns-then-not-is_letter-clause-value : goal.returns-then-not-is_letter-clause-value
returns-then-not-is_letter-clause-value c =
    let e = letter_count-at c.args.bytes.now c.loop-byte.byte-index 0 c.loop-byte-test.true in
    grind (arith, common_steps, e)

pub loop-byte-preserved : goal.loop-byte-preserved
loop-byte-preserved c =
    let e = letter_count-at c.args.bytes.now c.loop-byte.byte-index 0 c.loop-byte-test.true in
    record { index = grind (arith, common_steps); counted = grind (arith, common_steps, e) }

pub returns-clause-value : goal.returns-clause-value
returns-clause-value c =
    let e = letter_count-end c.args.bytes.now c.loop-byte.count (omega arith) in
    grind (arith, common_steps, e)
