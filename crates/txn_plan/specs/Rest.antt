-- What is left of a step, and what its turns say.
use Rattle.std.specs.Prelude.{List, drop}
use Rattle.txn_data.specs.declared.found.Found.{Found}
use Rattle.txn_data.specs.declared.told.Told.{Told}
use Rattle.txn_types.specs.Program.{Program, Turn, Ask, Tell}
use Rattle.txn_plan.specs.Stage.{rest_at}
use Rattle.txn_plan.specs.declared.txn_plan.TxnPlan.{TxnPlan}
use Rattle.txn_plan.specs.declared.txn_turn.TxnTurn.{TxnTurn}
use Rattle.txn_plan.specs.declared.txn_turn.TxnTurn.TheVariants as txn_turn

-- the transactions that are not resolved yet
abbrev pub others : TxnPlan → List Found
others p = drop p.resolved p.found

-- the program that is left of a plan
unfoldable pub rest : TxnPlan → Program Told
rest p = rest_at p.step (others p) p.fates p.stage

-- a turn as the tables have it
abbrev pub turn_of : TxnTurn → Turn Told
turn_of (txn_turn.Ask to request) = Ask to request
turn_of (txn_turn.Done told) = Tell told
