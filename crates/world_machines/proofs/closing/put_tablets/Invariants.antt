use Rattle.std.proofs.Common.{◌≡◌, ◌+◌, ◌++◌, ◌≤◌, length, map}
use Rattle.std.specs.Vec.{vec_capacity}
use Rattle.std.specs.Vec.Iter.{into_iter_items}
use Rattle.world_machines.specs.Stores.{kept_by, store_of}
use Rattle.world_machines.proofs.closing.put_tablets.Given as goal

abbrev pub invariant-loop-tablet : goal.invariant-loop-tablet
invariant-loop-tablet g l = record {
  put : map (store_of g.L.LogStore.held g.L.LogStore.faults) l.stores.items ≡ map (store_of g.L.LogStore.held g.L.LogStore.faults) l.initial.stores.items ++ map (λ t. kept_by t.log) l.yielded;
  room : length l.stores.items + length (into_iter_items l.tablet-iterator) ≤ vec_capacity l.stores;
  capacity : vec_capacity l.stores ≡ vec_capacity l.initial.stores;
}
