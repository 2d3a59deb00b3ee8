use Rattle.std.proofs.Common.{◌≡◌, ◌<◌, ◌≤◌, List, get_or, length, subst, arith}
use Rattle.std.proofs.lemmas.Result.{err_from_is_err_and}
use Rattle.txn_data.specs.declared.session_plan.SessionPlan.{SessionPlan}
use Rattle.sim_schedule.proofs.Going.{went_lost, went_stand}
use Rattle.sim_schedule.proofs.Parts.{ended_all, ended_more, ended_none}
use Rattle.sim_schedule.proofs.sessions.sessions_to_ends.Goals as goal

pub loop-one-init : goal.loop-one-init
loop-one-init g c = ended_none c.args.plan.now c.args.simulation.now.world c.args.simulation.now.clocks.items

pub to_end-requires : goal.to_end-requires
to_end-requires g c = went_stand (c.loop-one.invariant c.requires.config c.requires.standing)

pub loop-one-preserved : goal.loop-one-preserved
loop-one-preserved g c =
    let k = c.loop-one.one-index in
    let p = c.one-item.result in
    let within : k < length c.items-one-items.result.now = omega (arith, c.loop-one-test.true) in
    ended_more c.args.plan.now k p c.args.simulation.now.world c.loop-one.simulation.world c.to_end.new.self.world c.args.simulation.now.clocks.items c.loop-one.simulation.clocks.items c.to_end.new.self.clocks.items
    (subst (λ (l : List SessionPlan). k < length l) c.items-one-items.ensures within)
    (subst (λ (l : List SessionPlan). p ≡ get_or l k p) c.items-one-items.ensures c.one-item.is)
    c.loop-one.invariant c.in_ok-to_end.ensures

pub returns-in_err-to_end : goal.returns-in_err-to_end
returns-in_err-to_end g c =
    let p = err_from_is_err_and c.from_residual.result c.from_residual.ensures.1 in
    λ config standing. let so_far = c.loop-one.invariant config standing in rw p.1 (went_lost so_far (c.in_err-to_end.ensures config c.args.plan.now so_far.standing))

pub returns : goal.returns
returns g c =
    ended_all c.args.plan.now c.loop-one.one-index c.args.simulation.now.world c.loop-one.simulation.world c.args.simulation.now.clocks.items c.loop-one.simulation.clocks.items
    (let past : length c.items-one-items.result.now ≤ c.loop-one.one-index = omega (arith, c.loop-one-test.false) in subst (λ (l : List SessionPlan). length l ≤ c.loop-one.one-index) c.items-one-items.ensures past)
    c.loop-one.invariant
