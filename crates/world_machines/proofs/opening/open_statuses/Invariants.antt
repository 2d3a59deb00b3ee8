use Rattle.std.proofs.Common.{◌≡◌, [], drop, reverse}
use Rattle.std.specs.List.{All}
use Rattle.std.specs.Vec.{vec_capacity}
use Rattle.world_machines.specs.Machines.{EachAt, StatusStands}
use Rattle.world_machines.specs.Stores.{store_at}
use Rattle.world_machines.proofs.opening.open_statuses.Given as goal

abbrev pub invariant-loop-number : goal.invariant-loop-number
invariant-loop-number g l = record {
  opened : EachAt (λ j t. StatusStands l.config (store_at g.L.LogStore.held g.L.LogStore.faults (reverse l.initial.stores.items) j) [] j t) l.number l.statuses.items;
  rest : reverse l.stores.items ≡ drop l.number (reverse l.initial.stores.items);
  capacity : vec_capacity l.stores ≡ vec_capacity l.initial.stores;
  room : vec_capacity l.statuses ≡ vec_capacity l.initial.statuses;
  empty : All (λ x. g.L.LogStore.held x ≡ []) l.stores.items;
}
