use Rattle.std.proofs.Common.{◌<◌, false, true, ap, length, reverse, sym, ◌∙◌, arith}
use Rattle.std.proofs.lemmas.Result.{err_from_is_err_and}
use Rattle.txn_types.specs.Script.{actor_of}
use Rattle.sim_schedule.proofs.Telling.{last_tells, place_within}
use Rattle.sim_schedule.proofs.Ways.{less_room, next_still, Untold, until_told, untold_more, untold_none, way_lost}
use Rattle.sim_schedule.proofs.simulation.Simulation.until_told.Goals as goal

pub loop-at-init : goal.loop-at-init
loop-at-init g c = (untold_none c.args.self.now.world c.args.self.now.clocks.items (actor_of c.args.who), c.requires)

pub advance-requires : goal.advance-requires
advance-requires g c = c.loop-at.invariant.1

pub returns-in_err-at : goal.returns-in_err-at
returns-in_err-at g c =
    let p = err_from_is_err_and c.from_residual.result c.from_residual.ensures.1 in
    rw p.1 (way_lost c.args.self.now.world c.loop-at.self.world c.advance.new.self.world c.args.self.now.clocks.items c.loop-at.self.clocks.items c.advance.new.self.clocks.items
    (Untold c.args.self.now.world c.loop-at.self.world (actor_of c.args.who)) (λ config plan. Unit {0}) c.loop-at.invariant.0 c.in_err-at.ensures.went)

pub loop-at-smaller : goal.loop-at-smaller
loop-at-smaller g c =
    less_room c.loop-at.self.world c.advance.new.self.world c.loop-at.self.clocks.items c.advance.new.self.clocks.items (actor_of c.args.who)
    c.loop-at.invariant.1 c.in_ok-at.ensures.went c.in_ok-at.ensures.fits

pub offset_bounds-items-at : goal.offset_bounds-items-at
offset_bounds-items-at g c =
    let within : c.in_ok-at.at < length c.items.result.now =
    place_within c.loop-at.self.world c.advance.new.self.world c.loop-at.self.clocks.items c.advance.new.self.clocks.items (actor_of c.args.who) c.items.result.now c.in_ok-at.at
    c.loop-at.invariant.1 c.in_ok-at.ensures.went (ap reverse c.items.ensures ∙ c.history.ensures.value) c.in_ok-at.ensures.place in
    let fits = c.items.type_inv.1 in
    omega (arith, within, fits)

pub bounds-items-at : goal.bounds-items-at
bounds-items-at g c =
    place_within c.loop-at.self.world c.advance.new.self.world c.loop-at.self.clocks.items c.advance.new.self.clocks.items (actor_of c.args.who) c.items.result.now c.in_ok-at.at
    c.loop-at.invariant.1 c.in_ok-at.ensures.went (ap reverse c.items.ensures ∙ c.history.ensures.value) c.in_ok-at.ensures.place

pub returns-then-is_tell : goal.returns-then-is_tell
returns-then-is_tell g c =
    until_told c.args.self.now.world c.loop-at.self.world c.advance.new.self.world c.args.self.now.clocks.items c.loop-at.self.clocks.items c.advance.new.self.clocks.items (actor_of c.args.who)
    c.loop-at.invariant.0 c.in_ok-at.ensures.went
    (last_tells c.loop-at.self.world c.advance.new.self.world (actor_of c.args.who) c.items.result.now c.in_ok-at.at c.index-items-at.result true
    (ap reverse c.items.ensures ∙ c.history.ensures.value) c.in_ok-at.ensures.place c.index-items-at.is (sym c.if-is_tell.true ∙ c.is_tell.ensures))

pub loop-at-preserved : goal.loop-at-preserved
loop-at-preserved g c =
    let silent = last_tells c.loop-at.self.world c.advance.new.self.world (actor_of c.args.who) c.items.result.now c.in_ok-at.at c.index-items-at.result false
    (ap reverse c.items.ensures ∙ c.history.ensures.value) c.in_ok-at.ensures.place c.index-items-at.is (sym c.if-is_tell.false ∙ c.is_tell.ensures) in (
      untold_more c.args.self.now.world c.loop-at.self.world c.advance.new.self.world c.args.self.now.clocks.items c.loop-at.self.clocks.items c.advance.new.self.clocks.items (actor_of c.args.who)
          c.loop-at.invariant.0 c.in_ok-at.ensures.went silent,
      next_still c.loop-at.self.world c.advance.new.self.world c.loop-at.self.clocks.items c.advance.new.self.clocks.items (actor_of c.args.who) c.loop-at.invariant.1 c.in_ok-at.ensures.went silent,
    )
