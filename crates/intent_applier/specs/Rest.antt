-- What is left of a pass, and what its turns say.
use Rattle.std.specs.Prelude.{List, drop}
use Rattle.txn_data.specs.declared.found.Found.{Found}
use Rattle.txn_data.specs.declared.told.Told.{Told}
use Rattle.txn_types.specs.Program.{Program, Turn, Ask, Tell}
use Rattle.txn_types.specs.PassProgram.{Counts}
use Rattle.intent_applier.specs.Stage.{rest_at}
use Rattle.intent_applier.specs.declared.pass.Pass.{Pass}
use Rattle.intent_applier.specs.declared.pass_turn.PassTurn.{PassTurn}
use Rattle.intent_applier.specs.declared.pass_turn.PassTurn.TheVariants as pass_turn

abbrev pub counts_of : Pass → Counts
counts_of p = record { applied = p.applied; cleaned = p.cleaned; left = p.left }

-- the transactions not seen to yet
abbrev pub others : Pass → List Found
others p = drop p.seen p.found

-- the program that is left of a pass
unfoldable pub rest : Pass → Program Told
rest p = rest_at p.tablet (counts_of p) (others p) p.stage

-- a turn as the tables have it
abbrev pub turn_of : PassTurn → Turn Told
turn_of (pass_turn.Ask to request) = Ask to request
turn_of (pass_turn.Done told) = Tell told
