use Rattle.std.proofs.Common.{arith}
use Rattle.std.proofs.lemmas.Grind.{common_steps}
use Rattle.std.proofs.lemmas.List.{drop_more, drop_all}
use Rattle.txn_types.specs.ReadProgram.{limit_of as defined}
use Rattle.session_core.proofs.work.limit_of.Goals as goal

pub returns-then-of-tablet : goal.returns-then-of-tablet
unfolding defined
returns-then-of-tablet c =
    let step = drop_more c.args.limits.now c.loop-of.of-index c.of-item.result c.loop-of-test.true in
    grind (arith, common_steps, step, c.loop-of.invariant)

pub loop-of-preserved : goal.loop-of-preserved
unfolding defined
loop-of-preserved c =
    let step = drop_more c.args.limits.now c.loop-of.of-index c.of-item.result c.loop-of-test.true in
    grind (arith, common_steps, step, c.loop-of.invariant)

pub returns : goal.returns
unfolding defined
returns c = grind (arith, common_steps, drop_all, c.loop-of.invariant)
