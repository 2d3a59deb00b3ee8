-- One move.
use Rattle.std.specs.Prelude.{◌≡◌, ◌∷◌}
use Rattle.txn_data.specs.declared.actor.Actor.{Actor}
use Rattle.txn_data.specs.declared.entry.Entry.{Entry}
use Rattle.txn_types.specs.History.{History}
use Rattle.txn_types.specs.Script.{asker}

-- from one history to the next there is one entry more, which is the move of this mover
pub record MovedOnce (a : Actor) (h g : History) : Type 0 where
  pub entry : Entry
  pub adds : g ≡ entry ∷ h
  pub by : asker entry ≡ a
