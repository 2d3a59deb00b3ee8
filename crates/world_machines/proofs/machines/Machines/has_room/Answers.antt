use Rattle.std.proofs.Common.{◌≡◌, ap, ◌∙◌, sym}
use Rattle.std.proofs.lemmas.Bool.{ltb-true}
use Rattle.world_machines.specs.Machines.{MachinesState}
use Rattle.world_machines.proofs.Rooms.{no_tablet, no_status, status_has, tablet_entries, status_entries}
use Rattle.world_machines.proofs.machines.Machines.has_room.Goals as goal

pub returns-in-Some-clause-entries : goal.returns-in-Some-clause-entries
returns-in-Some-clause-entries g c = λ config start spare h stands there.
    let at = c.in-Some.ensures.lookup in
    rw c.in-Tablet.is (tablet_entries config start spare h c.args.self.now c.deref.result.now c.in-Tablet.number c.in-Some.tablet.now c.actions.result stands (c.deref.ensures.value ∙ ap (λ (m : MachinesState _). m.tablets) c.self.view_is) at.3.0 at.1 c.actions.ensures.entries)

pub returns-in-None-clause-value : goal.returns-in-None-clause-value
returns-in-None-clause-value g c =
    rw c.in-Tablet.is (no_tablet c.args.self.now c.deref.result.now c.in-Tablet.number (c.deref.ensures.value ∙ ap (λ (m : MachinesState _). m.tablets) c.self.view_is) c.in-None.ensures.lookup.0)

pub returns-in-Some-get-clause-value : goal.returns-in-Some-get-clause-value
returns-in-Some-get-clause-value g c =
    let at = c.in-Some-get.ensures.lookup in
    rw c.in-Status.is (status_has c.args.self.now c.deref-in-Status.result.now c.in-Status.number c.in-Some-get.status.now c.actions-in-Some-get.result (c.deref-in-Status.ensures.value ∙ ap (λ (m : MachinesState _). m.statuses) c.self.view_is) at.3.0 at.1 c.actions-in-Some-get.ensures.count)

pub returns-in-Some-get-clause-entries : goal.returns-in-Some-get-clause-entries
returns-in-Some-get-clause-entries g c = λ config start spare h stands there.
    let at = c.in-Some-get.ensures.lookup in
    rw c.in-Status.is (status_entries config start spare h c.args.self.now c.deref-in-Status.result.now c.in-Status.number c.in-Some-get.status.now c.actions-in-Some-get.result stands (c.deref-in-Status.ensures.value ∙ ap (λ (m : MachinesState _). m.statuses) c.self.view_is) at.3.0 at.1 c.actions-in-Some-get.ensures.entries)

pub returns-in-None-get-clause-value : goal.returns-in-None-get-clause-value
returns-in-None-get-clause-value g c =
    rw c.in-Status.is (no_status c.args.self.now c.deref-in-Status.result.now c.in-Status.number (c.deref-in-Status.ensures.value ∙ ap (λ (m : MachinesState _). m.statuses) c.self.view_is) c.in-None-get.ensures.lookup.0)
