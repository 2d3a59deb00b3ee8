-- What holds of what is left of a pass.
use Rattle.std.specs.Prelude.{◌≡◌, Bool, true, false}
use Rattle.txn_data.specs.declared.request.Request.TheVariants as request
use Rattle.txn_data.specs.declared.told.Told.{Told}
use Rattle.txn_types.specs.Program.{Turn, Ask, turn}
use Rattle.intent_applier.specs.Rest.{rest}
use Rattle.intent_applier.specs.declared.pass.Pass.{Pass}

-- it asks a tablet to list for a read
abbrev pub lists : Turn Told → Bool
lists (Ask to (request.ListRead own_txn paths t g limit)) = true
lists _ = false

-- a pass never does
abbrev pub ListsForNoRead : Type 0
ListsForNoRead = (p : Pass) → lists (turn (rest p)) ≡ false
