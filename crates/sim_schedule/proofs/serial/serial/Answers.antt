use Rattle.std.proofs.Common.{ℕ, ◌<◌, ◌≤◌, List, get_or, length, subst, arith}
use Rattle.std.proofs.lemmas.Result.{err_from_is_err_and}
use Rattle.sim_schedule.proofs.Going.{went_lost}
use Rattle.sim_schedule.proofs.Lists.{read_at}
use Rattle.sim_schedule.proofs.Parts.{line_next, lines_more, lines_none, round_next, rounds_more, rounds_none}
use Rattle.sim_schedule.proofs.serial.serial.Goals as goal

pub loop-number-init : goal.loop-number-init
loop-number-init g c = lines_none c.args.config.now c.args.plan.now c.args.simulation.now.world c.args.simulation.now.clocks.items c.requires.stands c.requires.first

pub until_told-requires : goal.until_told-requires
until_told-requires g c =
    let k = c.loop-number.number-index in
    let i = get_or c.items-number-items.result.now k 0 in
    line_next c.args.config.now c.args.plan.now k i c.args.simulation.now.world c.loop-number.simulation.world c.args.simulation.now.clocks.items c.loop-number.simulation.clocks.items
    (subst (λ (l : List ℕ). k < length l) c.items-number-items.ensures c.loop-number-test.true)
    (read_at c.args.plan.now.order c.items-number-items.result.now k 0 c.items-number-items.ensures c.loop-number-test.true)
    c.loop-number.invariant

pub loop-number-preserved : goal.loop-number-preserved
loop-number-preserved g c =
    let k = c.loop-number.number-index in
    let i = get_or c.items-number-items.result.now k 0 in
    lines_more c.args.config.now c.args.plan.now k i c.args.simulation.now.world c.loop-number.simulation.world c.until_told.new.self.world c.args.simulation.now.clocks.items c.loop-number.simulation.clocks.items c.until_told.new.self.clocks.items
    (subst (λ (l : List ℕ). k < length l) c.items-number-items.ensures c.loop-number-test.true)
    (read_at c.args.plan.now.order c.items-number-items.result.now k 0 c.items-number-items.ensures c.loop-number-test.true)
    c.loop-number.invariant c.in_ok-until_told.ensures

pub returns-in_err-until_told : goal.returns-in_err-until_told
returns-in_err-until_told g c =
    let p = err_from_is_err_and c.from_residual.result c.from_residual.ensures.1 in
    rw p.1 (went_lost c.loop-number.invariant (c.in_err-until_told.ensures c.args.config.now c.args.plan.now c.loop-number.invariant.standing))

pub sessions_to_ends-requires : goal.sessions_to_ends-requires
sessions_to_ends-requires g c = record { config = c.args.config.now; standing = c.loop-number.invariant.standing }

pub returns-in_err-sessions_to_ends : goal.returns-in_err-sessions_to_ends
returns-in_err-sessions_to_ends g c =
    let p = err_from_is_err_and c.from_residual-in_err-sessions_to_ends.result c.from_residual-in_err-sessions_to_ends.ensures.1 in
    rw p.1 (went_lost c.loop-number.invariant (c.in_err-sessions_to_ends.ensures c.args.config.now c.loop-number.invariant.standing))

pub loop-round-init : goal.loop-round-init
loop-round-init g c =
    rounds_none c.args.config.now c.args.plan.now c.loop-number.number-index c.args.simulation.now.world c.loop-number.simulation.world c.sessions_to_ends.new.simulation.world c.args.simulation.now.clocks.items c.loop-number.simulation.clocks.items c.sessions_to_ends.new.simulation.clocks.items
    (let past : length c.items-number-items.result.now ≤ c.loop-number.number-index = omega (arith, c.loop-number-test.false) in subst (λ (l : List ℕ). length l ≤ c.loop-number.number-index) c.items-number-items.ensures past)
    c.loop-number.invariant (c.in_ok-sessions_to_ends.ensures c.args.config.now c.loop-number.invariant.standing)

pub passes-requires : goal.passes-requires
passes-requires g c = round_next c.args.config.now c.args.plan.now c.loop-round._round c.args.simulation.now.world c.loop-round.simulation.world c.args.simulation.now.clocks.items c.loop-round.simulation.clocks.items c.loop-round.invariant c.loop-round-test.true

pub loop-round-preserved : goal.loop-round-preserved
loop-round-preserved g c =
    rounds_more c.args.config.now c.args.plan.now c.loop-round._round c.args.simulation.now.world c.loop-round.simulation.world c.passes.new.simulation.world c.args.simulation.now.clocks.items c.loop-round.simulation.clocks.items c.passes.new.simulation.clocks.items
    c.loop-round.invariant c.in_ok-passes.ensures

pub returns-in_err-passes : goal.returns-in_err-passes
returns-in_err-passes g c =
    let p = err_from_is_err_and c.from_residual-in_err-passes.result c.from_residual-in_err-passes.ensures.1 in
    rw p.1 (went_lost c.loop-round.invariant (c.in_err-passes.ensures c.args.plan.now c.loop-round.invariant.standing))
