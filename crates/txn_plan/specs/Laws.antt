-- What holds of what is left of a plan.
use Rattle.std.specs.Prelude.{◌≡◌, Bool, true, false}
use Rattle.txn_data.specs.declared.reply.Reply.{Reply}
use Rattle.txn_data.specs.declared.request.Request.TheVariants as request
use Rattle.txn_data.specs.declared.told.Told.{Told}
use Rattle.txn_types.specs.Program.{Turn, Ask, heard, turn}
use Rattle.txn_plan.specs.Rest.{rest}
use Rattle.txn_plan.specs.Stage.{takes_room}
use Rattle.txn_plan.specs.declared.txn_plan.TxnPlan.{TxnPlan}

-- it asks a tablet to list for a read
abbrev pub lists : Turn Told → Bool
lists (Ask to (request.ListRead own_txn paths t g limit)) = true
lists _ = false

-- a plan never does
abbrev pub ListsForNoRead : Type 0
ListsForNoRead = (p : TxnPlan) → lists (turn (rest p)) ≡ false

-- where what comes next wants no room, what comes after the reply wants none either
abbrev pub StaysQuiet : Type 0
StaysQuiet = (p : TxnPlan) (r : Reply) → takes_room (turn (rest p)) ≡ false → takes_room (turn (heard (rest p) r)) ≡ false
