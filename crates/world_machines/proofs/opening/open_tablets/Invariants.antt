use Rattle.std.proofs.Common.{◌≡◌, [], drop, reverse}
use Rattle.std.specs.List.{All}
use Rattle.std.specs.Vec.{vec_capacity}
use Rattle.world_machines.specs.Machines.{EachAt, TabletStands}
use Rattle.world_machines.specs.Stores.{store_at}
use Rattle.world_machines.proofs.opening.open_tablets.Given as goal

abbrev pub invariant-loop-number : goal.invariant-loop-number
invariant-loop-number g l = record {
  opened : EachAt (λ k t. TabletStands l.config (store_at g.L.LogStore.held g.L.LogStore.faults (reverse l.initial.stores.items) k) [] k t) l.number l.tablets.items;
  rest : reverse l.stores.items ≡ drop l.number (reverse l.initial.stores.items);
  capacity : vec_capacity l.stores ≡ vec_capacity l.initial.stores;
  room : vec_capacity l.tablets ≡ vec_capacity l.initial.tablets;
  empty : All (λ x. g.L.LogStore.held x ≡ []) l.stores.items;
}
