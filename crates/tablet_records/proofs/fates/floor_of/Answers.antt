use Rattle.std.proofs.Common.{◌≡◌, ap, ◌∙◌, refl, arith}
use Rattle.std.proofs.lemmas.Grind.{common_steps}
use Rattle.std.proofs.lemmas.List.{drop_more, drop_all}
use Rattle.txn_data.specs.declared.fate_of.FateOf.{FateOf}
use Rattle.txn_types.specs.Tablet.{greatest_fate, first_fate, commit_time}
use Rattle.conflict_matrix.proofs.Walk.{ahead-first, ahead-tells, ahead-next}
use Rattle.tablet_records.proofs.fates.floor_of.Goals as goal

pub loop-of-init : goal.loop-of-init
loop-of-init c = record {
  ahead = ahead-first (λ (f : FateOf). f.txn) c.args.fates.now c.args.fates.now c.of-firsts.result c.of-firsts.ensures.rest c.of-firsts.ensures.in_order;
  floor = refl;
}

pub loop-of-preserved : goal.loop-of-preserved
unfolding greatest_fate
loop-of-preserved c =
    let fates = c.args.fates.now in
    let i = c.loop-of.of-index in
    let f = c.of-item.result in
    let step = drop_more fates i f c.loop-of-test.true in
    let told = ahead-tells (λ (g : FateOf). g.txn) fates fates i f c.loop-of.firsts c.loop-of.invariant.ahead c.loop-of-test.true c.of-item.is in
    let time : c.time_of.result ≡ commit_time (first_fate fates f.txn) = c.time_of.ensures.told ∙ ap commit_time told in
    record {
      ahead = ahead-next (λ (g : FateOf). g.txn) fates fates i f c.loop-of.firsts c.loop-of.invariant.ahead c.loop-of-test.true c.of-item.is
          c.time_of.new.self c.time_of.ensures.walks c.time_of.ensures.later;
      floor = grind (arith, common_steps, step, time, c.loop-of.invariant.floor);
    }

pub returns : goal.returns
unfolding greatest_fate
returns c = grind (arith, common_steps, drop_all, c.loop-of.invariant.floor)
