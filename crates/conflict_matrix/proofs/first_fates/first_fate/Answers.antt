use Rattle.std.proofs.Common.{arith}
use Rattle.std.proofs.lemmas.Grind.{common_steps}
use Rattle.std.proofs.lemmas.List.{drop_more, drop_all}
use Rattle.txn_types.specs.Tablet.{first_fate as fate_in}
use Rattle.conflict_matrix.proofs.first_fates.first_fate.Goals as goal

pub returns-then-eq : goal.returns-then-eq
unfolding fate_in
returns-then-eq c =
    let step = drop_more c.args.fates.now c.loop-of.of-index c.of-item.result c.loop-of-test.true in
    grind (arith, common_steps, step, c.loop-of.invariant)

pub loop-of-preserved : goal.loop-of-preserved
unfolding fate_in
loop-of-preserved c =
    let step = drop_more c.args.fates.now c.loop-of.of-index c.of-item.result c.loop-of-test.true in
    grind (arith, common_steps, step, c.loop-of.invariant)

pub returns : goal.returns
unfolding fate_in
returns c = grind (arith, common_steps, drop_all, c.loop-of.invariant)
