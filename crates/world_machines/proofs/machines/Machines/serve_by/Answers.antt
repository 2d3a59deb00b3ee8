use Rattle.std.proofs.Common.{◌≡◌, ◌<◌, ap, sym, subst, length, set, true}
use Rattle.txn_data.specs.declared.actor.Actor.{Actor}
use Rattle.world_machines.specs.Machines.{MachinesState, StandsFor, has_room}
use Rattle.world_machines.specs.Served.{MovesOn}
use Rattle.world_machines.proofs.Accepted.{tablet_may, status_may, nobody_may}
use Rattle.world_machines.proofs.Moving.{tablet_moves, status_moves}
use Rattle.world_machines.proofs.Rooms.{tablet_room, status_room}
use Rattle.world_machines.proofs.machines.Machines.serve_by.Goals as goal

pub serve-requires-clause-accepted : goal.serve-requires-clause-accepted
serve-requires-clause-accepted g c = (tablet_may c.args.self.now c.args.by c.in-Tablet.number c.args.request.now c.in-Tablet.is c.requires.may).1

pub serve-requires-clause-room : goal.serve-requires-clause-room
serve-requires-clause-room g c =
    let may = tablet_may c.args.self.now c.args.by c.in-Tablet.number c.args.request.now c.in-Tablet.is c.requires.may in
    tablet_room c.args.self.now c.self.inside.tablets.items c.in-Tablet.number c.index_mut.result.now (ap (λ (m : MachinesState _). m.tablets) c.self.view_is)
    (subst (λ (m : MachinesState _). c.in-Tablet.number < length m.tablets) (sym c.self.view_is) may.0) c.index_mut.ensures.value
    (subst (λ (a : Actor). has_room c.args.self.now a ≡ true) c.in-Tablet.is c.requires.room)

pub serve-requires-in-Status-clause-room : goal.serve-requires-in-Status-clause-room
serve-requires-in-Status-clause-room g c =
    let may = status_may c.args.self.now c.args.by c.in-Status.number c.args.request.now c.in-Status.is c.requires.may in
    status_room c.args.self.now c.self.inside.statuses.items c.in-Status.number c.index_mut-in-Status.result.now (ap (λ (m : MachinesState _). m.statuses) c.self.view_is)
    (subst (λ (m : MachinesState _). c.in-Status.number < length m.statuses) (sym c.self.view_is) may.0) c.index_mut-in-Status.ensures.value
    (subst (λ (a : Actor). has_room c.args.self.now a ≡ true) c.in-Status.is c.requires.room)

pub unreachable-requires : goal.unreachable-requires
unreachable-requires g c = nobody_may c.args.self.now c.args.by c.args.request.now c.in_default.not-Tablet c.in_default.not-Status c.requires.may

pub returns-in-Tablet-clause-moves : goal.returns-in-Tablet-clause-moves
returns-in-Tablet-clause-moves g c = λ config start spare h stands.
    let may = tablet_may c.args.self.now c.args.by c.in-Tablet.number c.args.request.now c.in-Tablet.is c.requires.may in
    let before : MachinesState _ = record { tablets = c.self.inside.tablets.items; statuses = c.self.inside.statuses.items; spare = c.self.inside.spare.items } in
    let after : MachinesState _ = record before { tablets = set before.tablets c.in-Tablet.number c.serve.new.self } in
    subst (λ (a : Actor). MovesOn config start spare h a c.args.from c.args.request.now c.args.reading c.serve.result.reply c.serve.result after) (sym c.in-Tablet.is)
    (tablet_moves config start spare h before c.in-Tablet.number c.index_mut.result.now c.serve.new.self c.args.from c.args.request.now c.args.reading c.serve.result
    (subst (λ (m : MachinesState _). StandsFor config start spare h m) (sym c.self.view_is) stands)
    (subst (λ (m : MachinesState _). c.in-Tablet.number < length m.tablets) (sym c.self.view_is) may.0)
    c.index_mut.ensures.value c.serve.ensures.itself.tablet c.serve.ensures.itself.lease c.serve.ensures.serves.advances)

pub returns-in-Status-clause-moves : goal.returns-in-Status-clause-moves
returns-in-Status-clause-moves g c = λ config start spare h stands.
    let may = status_may c.args.self.now c.args.by c.in-Status.number c.args.request.now c.in-Status.is c.requires.may in
    let before : MachinesState _ = record { tablets = c.self.inside.tablets.items; statuses = c.self.inside.statuses.items; spare = c.self.inside.spare.items } in
    let after : MachinesState _ = record before { statuses = set before.statuses c.in-Status.number c.serve-in-Status.new.self } in
    subst (λ (a : Actor). MovesOn config start spare h a c.args.from c.args.request.now c.args.reading c.serve-in-Status.result.reply c.serve-in-Status.result after) (sym c.in-Status.is)
    (status_moves config start spare h before c.in-Status.number c.index_mut-in-Status.result.now c.serve-in-Status.new.self c.args.from c.args.request.now c.args.reading c.serve-in-Status.result
    (subst (λ (m : MachinesState _). StandsFor config start spare h m) (sym c.self.view_is) stands)
    (subst (λ (m : MachinesState _). c.in-Status.number < length m.statuses) (sym c.self.view_is) may.0)
    c.index_mut-in-Status.ensures.value c.serve-in-Status.ensures.stays.status c.serve-in-Status.ensures.stays.lease c.serve-in-Status.ensures.serves.advances)
