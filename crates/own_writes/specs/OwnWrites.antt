-- The accepted writes of an open transaction.
use Rattle.std.specs.Prelude.{List, ◌<◌}
use Rattle.std.specs.Vec.{vec_len, vec_capacity}
use Rattle.indexmap.specs.IndexSet.{spare}
use Rattle.txn_types.specs.Session.{Accepted}
use Rattle.own_writes.specs.Accepted.{all_accepted}
use Rattle.own_writes.specs.declared.own_writes.OwnWrites.{OwnWrites}

abbrev pub writes : OwnWrites → List Accepted
writes o = all_accepted o.writes.items

-- one more fits without memory
pub record HasRoom (o : OwnWrites) : Type 0 where
  pub write : vec_len o.writes < vec_capacity o.writes
  pub tablet : 0 < spare o.tablets
