use Rattle.std.proofs.Common.{◌≡◌, ℕ, ◌<◌, ◌%◌, ◌∙◌, List, ap, arith, length, subst, sym}
use Rattle.std.proofs.Math.Nat.{mod-lt}
use Rattle.std.proofs.lemmas.Option.{slice_get_read}
use Rattle.docdb_base.specs.Generator.{draw_of}
use Rattle.txn_data.specs.declared.mover.Mover.{Mover}
use Rattle.std.proofs.lemmas.Result.{err_from_is_err_and}
use Rattle.txn_types.specs.Script.{actor_of}
use Rattle.sim_schedule.proofs.Draws.{draw_next, DrawnOn, draws_none, draws_on, draws_out}
use Rattle.sim_schedule.proofs.Going.{went_lost}
use Rattle.sim_schedule.proofs.Ways.{less_room}
use Rattle.sim_schedule.proofs.drawn.drawn.Goals as goal

pub loop-generator-init : goal.loop-generator-init
loop-generator-init g c =
    draws_none c.args.config.now c.args.plan.now c.of-generator.result.state c.in_ok-working.working.items c.args.simulation.now.world c.args.simulation.now.clocks.items c.requires.stands c.requires.first c.of-generator.ensures c.in_ok-working.ensures

pub advance-requires : goal.advance-requires
advance-requires g c =
    let n = c.draw.result % c.len.result in
    let ws = c.loop-generator.working.items in
    let many : c.len.result ≡ length ws = omega (arith, c.len.ensures, c.loop-generator.working.ok) in
    let some : 0 < c.len.result = grind (arith, c.loop-generator-test.true, c.loop-generator-test.ensures, c.is_empty.ensures, c.len.ensures) in
    let there = slice_get_read ws c.len.result n c.index-who.result.now many (mod-lt c.draw.result some) c.index-who.ensures in
    draw_next c.args.config.now c.args.plan.now c.loop-generator.generator.state n ws c.index-who.result.now c.args.simulation.now.world c.loop-generator.simulation.world c.args.simulation.now.clocks.items c.loop-generator.simulation.clocks.items c.loop-generator.invariant there

pub returns-in_err-advance : goal.returns-in_err-advance
returns-in_err-advance g c =
    let p = err_from_is_err_and c.from_residual-in_err-advance.result c.from_residual-in_err-advance.ensures.1 in
    rw p.1 (went_lost c.loop-generator.invariant (c.in_err-advance.ensures.went c.args.config.now c.args.plan.now c.loop-generator.invariant.standing))

pub loop-generator-smaller-then-not-left : goal.loop-generator-smaller-then-not-left
loop-generator-smaller-then-not-left g c =
    let n = c.draw.result % c.len.result in
    let ws = c.loop-generator.working.items in
    let many : c.len.result ≡ length ws = omega (arith, c.len.ensures, c.loop-generator.working.ok) in
    let some : 0 < c.len.result = grind (arith, c.loop-generator-test.true, c.loop-generator-test.ensures, c.is_empty.ensures, c.len.ensures) in
    let there = slice_get_read ws c.len.result n c.index-who.result.now many (mod-lt c.draw.result some) c.index-who.ensures in
    less_room c.loop-generator.simulation.world c.advance.new.self.world c.loop-generator.simulation.clocks.items c.advance.new.self.clocks.items (actor_of c.index-who.result.now)
    (draw_next c.args.config.now c.args.plan.now c.loop-generator.generator.state n ws c.index-who.result.now c.args.simulation.now.world c.loop-generator.simulation.world c.args.simulation.now.clocks.items c.loop-generator.simulation.clocks.items c.loop-generator.invariant there)
    c.in_ok-advance.ensures.went c.in_ok-advance.ensures.fits

pub loop-generator-preserved-then-not-left : goal.loop-generator-preserved-then-not-left
loop-generator-preserved-then-not-left g c =
    let n = c.draw.result % c.len.result in
    let ws = c.loop-generator.working.items in
    let many : c.len.result ≡ length ws = omega (arith, c.len.ensures, c.loop-generator.working.ok) in
    let some : 0 < c.len.result = grind (arith, c.loop-generator-test.true, c.loop-generator-test.ensures, c.is_empty.ensures, c.len.ensures) in
    let there = slice_get_read ws c.len.result n c.index-who.result.now many (mod-lt c.draw.result some) c.index-who.ensures in
    let place : n ≡ draw_of c.draw.new.self.state % length ws = ap (λ (d : ℕ). d % c.len.result) c.draw.ensures.value ∙ ap (λ (l : ℕ). draw_of c.draw.new.self.state % l) many in
    subst (λ (l : List Mover). DrawnOn c.args.config.now c.args.plan.now c.draw.new.self.state l c.args.simulation.now.world c.args.simulation.now.clocks.items c.advance.new.self.world c.advance.new.self.clocks.items) (sym c.remove.ensures.items)
    (draws_out c.args.config.now c.args.plan.now c.loop-generator.generator.state c.draw.new.self.state n ws c.index-who.result.now c.left.result c.args.simulation.now.world c.loop-generator.simulation.world c.advance.new.self.world
    c.args.simulation.now.clocks.items c.loop-generator.simulation.clocks.items c.advance.new.self.clocks.items c.loop-generator.invariant c.draw.ensures.state place there c.in_ok-advance.ensures.went (λ config given start spare. c.left.ensures config given start spare) c.if-not-left.true)

pub loop-generator-smaller : goal.loop-generator-smaller
loop-generator-smaller g c =
    let n = c.draw.result % c.len.result in
    let ws = c.loop-generator.working.items in
    let many : c.len.result ≡ length ws = omega (arith, c.len.ensures, c.loop-generator.working.ok) in
    let some : 0 < c.len.result = grind (arith, c.loop-generator-test.true, c.loop-generator-test.ensures, c.is_empty.ensures, c.len.ensures) in
    let there = slice_get_read ws c.len.result n c.index-who.result.now many (mod-lt c.draw.result some) c.index-who.ensures in
    less_room c.loop-generator.simulation.world c.advance.new.self.world c.loop-generator.simulation.clocks.items c.advance.new.self.clocks.items (actor_of c.index-who.result.now)
    (draw_next c.args.config.now c.args.plan.now c.loop-generator.generator.state n ws c.index-who.result.now c.args.simulation.now.world c.loop-generator.simulation.world c.args.simulation.now.clocks.items c.loop-generator.simulation.clocks.items c.loop-generator.invariant there)
    c.in_ok-advance.ensures.went c.in_ok-advance.ensures.fits

pub loop-generator-preserved : goal.loop-generator-preserved
loop-generator-preserved g c =
    let n = c.draw.result % c.len.result in
    let ws = c.loop-generator.working.items in
    let many : c.len.result ≡ length ws = omega (arith, c.len.ensures, c.loop-generator.working.ok) in
    let some : 0 < c.len.result = grind (arith, c.loop-generator-test.true, c.loop-generator-test.ensures, c.is_empty.ensures, c.len.ensures) in
    let there = slice_get_read ws c.len.result n c.index-who.result.now many (mod-lt c.draw.result some) c.index-who.ensures in
    let place : n ≡ draw_of c.draw.new.self.state % length ws = ap (λ (d : ℕ). d % c.len.result) c.draw.ensures.value ∙ ap (λ (l : ℕ). draw_of c.draw.new.self.state % l) many in
    draws_on c.args.config.now c.args.plan.now c.loop-generator.generator.state c.draw.new.self.state n ws c.index-who.result.now c.left.result c.args.simulation.now.world c.loop-generator.simulation.world c.advance.new.self.world
    c.args.simulation.now.clocks.items c.loop-generator.simulation.clocks.items c.advance.new.self.clocks.items c.loop-generator.invariant c.draw.ensures.state place there c.in_ok-advance.ensures.went (λ config given start spare. c.left.ensures config given start spare) c.if-not-left.false
