use Rattle.std.proofs.Common.{◌≡◌, ◌≤◌, arith}
use Rattle.std.proofs.lemmas.Result.{err_from_is_err_and}
use Rattle.txn_types.specs.Script.{actor_of}
use Rattle.sim_schedule.proofs.Ways.{MovedSo, moved_all, moved_more, moved_none, moved_up_to, next_left, way_lost, way_stand}
use Rattle.sim_schedule.proofs.simulation.Simulation.up_to.Goals as goal

pub loop-move-init : goal.loop-move-init
loop-move-init g c = moved_none c.args.self.now.world c.args.self.now.clocks.items (actor_of c.args.who)

pub advance-requires : goal.advance-requires
advance-requires g c =
    next_left c.loop-move.self.world c.loop-move.self.clocks.items (actor_of c.args.who) c.left.result
    (way_stand c.args.self.now.world c.loop-move.self.world c.args.self.now.clocks.items c.loop-move.self.clocks.items (MovedSo c.args.self.now.world c.loop-move.self.world (actor_of c.args.who) c.loop-move._move) c.requires c.loop-move.invariant)
    (λ config given start spare. c.left.ensures config given start spare) c.if-not-left.false

pub loop-move-preserved : goal.loop-move-preserved
loop-move-preserved g c =
    moved_more c.args.self.now.world c.loop-move.self.world c.advance.new.self.world c.args.self.now.clocks.items c.loop-move.self.clocks.items c.advance.new.self.clocks.items (actor_of c.args.who) c.loop-move._move c.left.result
    c.loop-move.invariant (λ config given start spare. c.left.ensures config given start spare) c.if-not-left.false c.in_ok-advance.ensures.went

pub returns-in_err-advance : goal.returns-in_err-advance
returns-in_err-advance g c =
    let p = err_from_is_err_and c.from_residual.result c.from_residual.ensures.1 in
    rw p.1 (way_lost c.args.self.now.world c.loop-move.self.world c.advance.new.self.world c.args.self.now.clocks.items c.loop-move.self.clocks.items c.advance.new.self.clocks.items
    (MovedSo c.args.self.now.world c.loop-move.self.world (actor_of c.args.who) c.loop-move._move) (λ config plan. Unit {0}) c.loop-move.invariant c.in_err-advance.ensures.went)

pub returns-then-not-left : goal.returns-then-not-left
returns-then-not-left g c =
    let few : c.loop-move._move ≤ c.args.most = omega (arith, c.loop-move-test.true) in
    moved_up_to c.args.self.now.world c.loop-move.self.world c.args.self.now.clocks.items c.loop-move.self.clocks.items (actor_of c.args.who) c.loop-move._move c.args.most c.left.result
    c.loop-move.invariant few (λ config given start spare. c.left.ensures config given start spare) c.if-not-left.true

pub returns : goal.returns
returns g c =
    let all : c.loop-move._move ≡ c.args.most = omega (arith, c.loop-move-test.false, c.loop-move.auto._move-end) in
    moved_all c.args.self.now.world c.loop-move.self.world c.args.self.now.clocks.items c.loop-move.self.clocks.items (actor_of c.args.who) c.loop-move._move c.args.most c.loop-move.invariant all
