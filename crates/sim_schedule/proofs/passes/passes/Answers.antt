use Rattle.std.proofs.Common.{◌≡◌, arith}
use Rattle.std.proofs.lemmas.Result.{err_from_is_err_and}
use Rattle.sim_schedule.proofs.Going.{went_lost}
use Rattle.sim_schedule.proofs.Parts.{pass_next, passed_all, passed_more, passed_none}
use Rattle.sim_schedule.proofs.passes.passes.Goals as goal

pub loop-tablet-init : goal.loop-tablet-init
loop-tablet-init g c = passed_none c.args.config.now c.args.simulation.now.world c.args.simulation.now.clocks.items

pub until_told-requires : goal.until_told-requires
until_told-requires g c =
    pass_next c.args.config.now c.loop-tablet.tablet c.args.simulation.now.world c.loop-tablet.simulation.world c.args.simulation.now.clocks.items c.loop-tablet.simulation.clocks.items c.requires c.loop-tablet.invariant c.loop-tablet-test.true

pub loop-tablet-preserved : goal.loop-tablet-preserved
loop-tablet-preserved g c =
    passed_more c.args.config.now c.loop-tablet.tablet c.args.simulation.now.world c.loop-tablet.simulation.world c.until_told.new.self.world c.args.simulation.now.clocks.items c.loop-tablet.simulation.clocks.items c.until_told.new.self.clocks.items
    c.loop-tablet.invariant c.in_ok-until_told.ensures

pub returns-in_err-until_told : goal.returns-in_err-until_told
returns-in_err-until_told g c =
    let p = err_from_is_err_and c.from_residual.result c.from_residual.ensures.1 in
    λ plan standing. let so_far = c.loop-tablet.invariant plan standing in rw p.1 (went_lost so_far (c.in_err-until_told.ensures c.args.config.now plan so_far.standing))

pub returns : goal.returns
returns g c =
    let all : c.loop-tablet.tablet ≡ c.args.config.now.tablets = omega (arith, c.loop-tablet-test.false, c.loop-tablet.auto.tablet-end) in
    passed_all c.args.config.now c.loop-tablet.tablet c.args.simulation.now.world c.loop-tablet.simulation.world c.args.simulation.now.clocks.items c.loop-tablet.simulation.clocks.items all c.loop-tablet.invariant
