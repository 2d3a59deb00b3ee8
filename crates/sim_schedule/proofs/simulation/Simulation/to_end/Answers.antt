use Rattle.std.proofs.lemmas.Result.{err_from_is_err_and}
use Rattle.txn_types.specs.Script.{actor_of}
use Rattle.sim_schedule.proofs.Ways.{less_room, MovedSome, next_left, some_ends, some_more, some_none, way_lost, way_stand}
use Rattle.sim_schedule.proofs.simulation.Simulation.to_end.Goals as goal

pub loop-who-init : goal.loop-who-init
loop-who-init g c = some_none c.args.self.now.world c.args.self.now.clocks.items (actor_of c.args.who)

pub advance-requires : goal.advance-requires
advance-requires g c =
    next_left c.loop-who.self.world c.loop-who.self.clocks.items (actor_of c.args.who) c.left.result
    (way_stand c.args.self.now.world c.loop-who.self.world c.args.self.now.clocks.items c.loop-who.self.clocks.items (MovedSome c.args.self.now.world c.loop-who.self.world (actor_of c.args.who)) c.requires c.loop-who.invariant)
    (λ config given start spare. c.left.ensures config given start spare) c.loop-who-test.true

pub loop-who-preserved : goal.loop-who-preserved
loop-who-preserved g c =
    some_more c.args.self.now.world c.loop-who.self.world c.advance.new.self.world c.args.self.now.clocks.items c.loop-who.self.clocks.items c.advance.new.self.clocks.items (actor_of c.args.who) c.left.result
    c.loop-who.invariant (λ config given start spare. c.left.ensures config given start spare) c.loop-who-test.true c.in_ok-advance.ensures.went

pub loop-who-smaller : goal.loop-who-smaller
loop-who-smaller g c =
    less_room c.loop-who.self.world c.advance.new.self.world c.loop-who.self.clocks.items c.advance.new.self.clocks.items (actor_of c.args.who)
    (next_left c.loop-who.self.world c.loop-who.self.clocks.items (actor_of c.args.who) c.left.result
    (way_stand c.args.self.now.world c.loop-who.self.world c.args.self.now.clocks.items c.loop-who.self.clocks.items (MovedSome c.args.self.now.world c.loop-who.self.world (actor_of c.args.who)) c.requires c.loop-who.invariant)
    (λ config given start spare. c.left.ensures config given start spare) c.loop-who-test.true)
    c.in_ok-advance.ensures.went c.in_ok-advance.ensures.fits

pub returns-in_err-advance : goal.returns-in_err-advance
returns-in_err-advance g c =
    let p = err_from_is_err_and c.from_residual.result c.from_residual.ensures.1 in
    rw p.1 (way_lost c.args.self.now.world c.loop-who.self.world c.advance.new.self.world c.args.self.now.clocks.items c.loop-who.self.clocks.items c.advance.new.self.clocks.items
    (MovedSome c.args.self.now.world c.loop-who.self.world (actor_of c.args.who)) (λ config plan. Unit {0}) c.loop-who.invariant c.in_err-advance.ensures.went)

pub returns : goal.returns
returns g c =
    some_ends c.args.self.now.world c.loop-who.self.world c.args.self.now.clocks.items c.loop-who.self.clocks.items (actor_of c.args.who) c.left.result
    c.loop-who.invariant (λ config given start spare. c.left.ensures config given start spare) c.loop-who-test.false
