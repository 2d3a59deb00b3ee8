use Rattle.std.proofs.Common.{sym, subst}
use Rattle.world_machines.specs.Machines.{MachinesState, StandsFor}
use Rattle.world_machines.proofs.Returned.{came_back, returned_many, returned_logged, returned_spare}
use Rattle.world_machines.proofs.machines.Machines.into_stores.Goals as goal

pub returns-clause-many : goal.returns-clause-many
returns-clause-many g c = λ config start spare h stands.
    let m : MachinesState _ = record { tablets = c.self.inside.tablets.items; statuses = c.self.inside.statuses.items; spare = c.self.inside.spare.items } in
    let back = came_back g.L.LogStore.held g.L.LogStore.faults m c.self.inside.room.items c.put_tablets.new.stores.items c.put_statuses.new.stores.items c.append.new.self.items c.append.result c.unwrap.result
    c.self.invariant.0 c.put_tablets.ensures.stores c.put_statuses.ensures.stores c.append.ensures.items c.unwrap.ensures in
    returned_many config start spare h g.L.LogStore.held g.L.LogStore.faults m c.put_statuses.new.stores.items c.append.new.self.items (subst (λ (n : MachinesState _). StandsFor config start spare h n) (sym c.self.view_is) stands) back

pub returns-clause-logged : goal.returns-clause-logged
returns-clause-logged g c = λ config start spare h stands.
    let m : MachinesState _ = record { tablets = c.self.inside.tablets.items; statuses = c.self.inside.statuses.items; spare = c.self.inside.spare.items } in
    let back = came_back g.L.LogStore.held g.L.LogStore.faults m c.self.inside.room.items c.put_tablets.new.stores.items c.put_statuses.new.stores.items c.append.new.self.items c.append.result c.unwrap.result
    c.self.invariant.0 c.put_tablets.ensures.stores c.put_statuses.ensures.stores c.append.ensures.items c.unwrap.ensures in
    returned_logged config start spare h g.L.LogStore.held g.L.LogStore.faults m c.put_statuses.new.stores.items c.append.new.self.items (subst (λ (n : MachinesState _). StandsFor config start spare h n) (sym c.self.view_is) stands) back

pub returns-clause-spare : goal.returns-clause-spare
returns-clause-spare g c = λ config start spare h stands.
    let m : MachinesState _ = record { tablets = c.self.inside.tablets.items; statuses = c.self.inside.statuses.items; spare = c.self.inside.spare.items } in
    let back = came_back g.L.LogStore.held g.L.LogStore.faults m c.self.inside.room.items c.put_tablets.new.stores.items c.put_statuses.new.stores.items c.append.new.self.items c.append.result c.unwrap.result
    c.self.invariant.0 c.put_tablets.ensures.stores c.put_statuses.ensures.stores c.append.ensures.items c.unwrap.ensures in
    returned_spare config start spare h g.L.LogStore.held g.L.LogStore.faults m c.put_statuses.new.stores.items c.append.new.self.items (subst (λ (n : MachinesState _). StandsFor config start spare h n) (sym c.self.view_is) stands) back
