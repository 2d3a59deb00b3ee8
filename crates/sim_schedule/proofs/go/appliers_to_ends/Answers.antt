use Rattle.std.proofs.Common.{◌≡◌, arith}
use Rattle.std.proofs.lemmas.Result.{err_from_is_err_and}
use Rattle.sim_schedule.proofs.Going.{went_lost, went_stand}
use Rattle.sim_schedule.proofs.Parts.{applied_all, applied_more, applied_none}
use Rattle.sim_schedule.proofs.go.appliers_to_ends.Goals as goal

pub loop-tablet-init : goal.loop-tablet-init
loop-tablet-init g c = applied_none c.args.config.now c.args.simulation.now.world c.args.simulation.now.clocks.items

pub to_end-requires : goal.to_end-requires
to_end-requires g c = went_stand (c.loop-tablet.invariant c.requires.plan c.requires.standing)

pub loop-tablet-preserved : goal.loop-tablet-preserved
loop-tablet-preserved g c =
    applied_more c.args.config.now c.loop-tablet.tablet c.args.simulation.now.world c.loop-tablet.simulation.world c.to_end.new.self.world c.args.simulation.now.clocks.items c.loop-tablet.simulation.clocks.items c.to_end.new.self.clocks.items
    c.loop-tablet.invariant c.in_ok-to_end.ensures

pub returns-in_err-to_end : goal.returns-in_err-to_end
returns-in_err-to_end g c =
    let p = err_from_is_err_and c.from_residual.result c.from_residual.ensures.1 in
    λ plan standing. let so_far = c.loop-tablet.invariant plan standing in rw p.1 (went_lost so_far (c.in_err-to_end.ensures c.args.config.now plan so_far.standing))

pub returns : goal.returns
returns g c =
    let all : c.loop-tablet.tablet ≡ c.args.config.now.tablets = omega (arith, c.loop-tablet-test.false, c.loop-tablet.auto.tablet-end) in
    applied_all c.args.config.now c.loop-tablet.tablet c.args.simulation.now.world c.loop-tablet.simulation.world c.args.simulation.now.clocks.items c.loop-tablet.simulation.clocks.items all c.loop-tablet.invariant
