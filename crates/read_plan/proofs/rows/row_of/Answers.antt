use Rattle.std.proofs.Common.{arith}
use Rattle.std.proofs.lemmas.Grind.{common_steps}
use Rattle.std.proofs.lemmas.List.{drop_more, drop_all}
use Rattle.txn_types.specs.ReadProgram.{row_of as defined}
use Rattle.read_plan.proofs.rows.row_of.Goals as goal

pub returns-then-is_prefix-2 : goal.returns-then-is_prefix-2
unfolding defined
returns-then-is_prefix-2 c =
    let step = drop_more c.args.rows.now c.loop-row.row-index c.row-item.result c.loop-row-test.true in
    grind (arith, common_steps, step, c.loop-row.invariant)

pub loop-row-preserved : goal.loop-row-preserved
unfolding defined
loop-row-preserved c =
    let step = drop_more c.args.rows.now c.loop-row.row-index c.row-item.result c.loop-row-test.true in
    grind (arith, common_steps, step, c.loop-row.invariant)

pub returns : goal.returns
unfolding defined
returns c = grind (arith, common_steps, drop_all, c.loop-row.invariant)
