-- What a line shows of a command.
use Rattle.std.specs.Prelude.{ℕ, List}
use Rattle.txn_data.specs.declared.told.Told.{Told}

-- its word, and what was told
pub record Shown : Type 0 where
  pub word : List ℕ
  pub told : Told

-- what a session has so far: the word of its command under way, and what its lines show
pub record SessionShown : Type 0 where
  pub word : List ℕ
  pub lines : List Shown
