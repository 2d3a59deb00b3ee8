use Rattle.std.proofs.Common.{◌<◌, ◌≤◌, List, length, subst, arith}
use Rattle.std.proofs.lemmas.Result.{err_from_is_err_and}
use Rattle.txn_data.specs.declared.go_line.GoLine.{GoLine}
use Rattle.sim_schedule.proofs.Ends.{gone_all}
use Rattle.sim_schedule.proofs.Going.{went_lost, went_stand}
use Rattle.sim_schedule.proofs.Lists.{read_at}
use Rattle.sim_schedule.proofs.Parts.{gone_more, gone_none}
use Rattle.sim_schedule.proofs.go.go.Goals as goal

pub loop-line-init : goal.loop-line-init
loop-line-init g c = gone_none c.args.config.now c.args.plan.now c.args.simulation.now.world c.args.simulation.now.clocks.items c.requires.stands c.requires.first

pub up_to-requires : goal.up_to-requires
up_to-requires g c = went_stand c.loop-line.invariant

pub loop-line-preserved : goal.loop-line-preserved
loop-line-preserved g c =
    let k = c.loop-line.line-index in
    gone_more c.args.config.now c.args.plan.now k _ c.args.simulation.now.world c.loop-line.simulation.world c.up_to.new.self.world c.args.simulation.now.clocks.items c.loop-line.simulation.clocks.items c.up_to.new.self.clocks.items
    (subst (λ (l : List GoLine). k < length l) c.items-line-items.ensures c.loop-line-test.true)
    (read_at c.args.plan.now.go c.items-line-items.result.now k _ c.items-line-items.ensures c.loop-line-test.true)
    c.loop-line.invariant c.in_ok-up_to.ensures

pub returns-in_err-up_to : goal.returns-in_err-up_to
returns-in_err-up_to g c =
    let p = err_from_is_err_and c.from_residual.result c.from_residual.ensures.1 in
    rw p.1 (went_lost c.loop-line.invariant (c.in_err-up_to.ensures c.args.config.now c.args.plan.now c.loop-line.invariant.standing))

pub sessions_to_ends-requires : goal.sessions_to_ends-requires
sessions_to_ends-requires g c = record { config = c.args.config.now; standing = c.loop-line.invariant.standing }

pub returns-in_err-sessions_to_ends : goal.returns-in_err-sessions_to_ends
returns-in_err-sessions_to_ends g c =
    let p = err_from_is_err_and c.from_residual-in_err-sessions_to_ends.result c.from_residual-in_err-sessions_to_ends.ensures.1 in
    rw p.1 (went_lost c.loop-line.invariant (c.in_err-sessions_to_ends.ensures c.args.config.now c.loop-line.invariant.standing))

pub appliers_to_ends-requires : goal.appliers_to_ends-requires
appliers_to_ends-requires g c = record { plan = c.args.plan.now; standing = (c.in_ok-sessions_to_ends.ensures c.args.config.now c.loop-line.invariant.standing).standing }

pub returns : goal.returns
returns g c =
    let ended = c.in_ok-sessions_to_ends.ensures c.args.config.now c.loop-line.invariant.standing in
    gone_all c.args.config.now c.args.plan.now c.appliers_to_ends.result c.loop-line.line-index c.args.simulation.now.world c.loop-line.simulation.world c.sessions_to_ends.new.simulation.world c.appliers_to_ends.new.simulation.world
    c.args.simulation.now.clocks.items c.loop-line.simulation.clocks.items c.sessions_to_ends.new.simulation.clocks.items c.appliers_to_ends.new.simulation.clocks.items
    (let past : length c.items-line-items.result.now ≤ c.loop-line.line-index = omega (arith, c.loop-line-test.false) in subst (λ (l : List GoLine). length l ≤ c.loop-line.line-index) c.items-line-items.ensures past)
    c.loop-line.invariant ended (c.appliers_to_ends.ensures c.args.plan.now ended.standing)
