use Rattle.std.proofs.Common.{◌≡◌, ◌∙◌, ap, subst, sym, reverse, [], Some}
use Rattle.std.proofs.lemmas.List.Elements.{All-pop}
use Rattle.leased_log.specs.Stands.{LogState}
use Rattle.world_machines.specs.Machines.{EachAt, StatusStands}
use Rattle.world_machines.specs.Stores.{store_at}
use Rattle.world_machines.proofs.Taken.{next_left, status_opened}
use Rattle.world_machines.proofs.Places.{each_push}
use Rattle.world_machines.proofs.opening.open_statuses.Goals as goal

pub loop-number-preserved : goal.loop-number-preserved
loop-number-preserved g c =
    let given = reverse c.args.stores.now.items in
    let popped = c.in-Some.ensures.items in
    let rest = c.loop-number.invariant.rest in
    let empty = All-pop (λ x. g.L.LogStore.held x ≡ []) c.loop-number.stores.items c.pop.new.self.items (Some c.in-Some.store) popped c.loop-number.invariant.empty in
    record {
      opened = subst (EachAt (λ j t. StatusStands c.args.config.now (store_at g.L.LogStore.held g.L.LogStore.faults given j) [] j t) _) (sym c.push_reserved.ensures.items)
          (each_push (λ j t. StatusStands c.args.config.now (store_at g.L.LogStore.held g.L.LogStore.faults given j) [] j t) c.loop-number.number c.loop-number.statuses.items c.open.result c.loop-number.invariant.opened
          (status_opened c.args.config.now g.L.LogStore.held g.L.LogStore.faults given c.loop-number.stores.items c.pop.new.self.items c.in-Some.store c.loop-number.number c.open.result rest popped empty.1
          c.open.ensures.status (ap (λ (log : LogState). log.clock.lease) c.open.ensures.log) c.open.ensures.stands));
      rest = next_left given c.loop-number.stores.items c.pop.new.self.items c.in-Some.store c.loop-number.number rest popped;
      capacity = c.in-Some.ensures.capacity ∙ c.loop-number.invariant.capacity;
      room = c.push_reserved.ensures.capacity ∙ c.loop-number.invariant.room;
      empty = empty.0;
    }
