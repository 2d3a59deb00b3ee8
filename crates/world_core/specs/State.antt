-- A world, as contracts see it.
use Rattle.txn_data.specs.declared.trace.Trace.{Trace}
use Rattle.world_actors.specs.State.{ActorsState}

-- what was recorded, and the actors with their stores
pub record WorldState (L : Type 0) : Type 0 where
  pub trace : Trace
  pub actors : ActorsState L
