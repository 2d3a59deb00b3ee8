-- What is left of a read, and what its turns say.
use Rattle.std.specs.Prelude.{ℕ, Bool, true, false, List, drop}
use Rattle.txn_data.specs.declared.found.Found.{Found}
use Rattle.txn_data.specs.declared.read_end.ReadEnd.{ReadEnd}
use Rattle.txn_types.specs.Program.{Program, Turn, Ask, Tell}
use Rattle.txn_types.specs.ReadProgram.{Asked, Progress}
use Rattle.read_plan.specs.Found.{all_seen}
use Rattle.read_plan.specs.Stage.{rest_at}
use Rattle.read_plan.specs.declared.read_plan.ReadPlan.{ReadPlan}
use Rattle.read_plan.specs.declared.read_turn.ReadTurn.{ReadTurn}
use Rattle.read_plan.specs.declared.read_turn.ReadTurn.TheVariants as read_turn

abbrev pub asked : ReadPlan → Asked
asked p = record { own_txn = p.own; kind = p.kind; places = p.places; g = p.g; strict = p.strict }

abbrev pub progress : ReadPlan → Progress
progress p = record { t = p.t; restarts = p.restarts; limits = p.limits; found = all_seen p.rows }

-- the tablets to visit in this round
abbrev pub ahead : ReadPlan → List ℕ
ahead p = drop p.visited p.tablets

-- the transactions to ask about
abbrev pub others : ReadPlan → List Found
others p = drop p.known p.found

-- the program that is left of a read
unfoldable pub rest : ReadPlan → Program ReadEnd
rest p = rest_at (asked p) (progress p) p.first (ahead p) (others p) p.fates p.stage

-- a turn as the tables have it
abbrev pub turn_of : ReadTurn → Turn ReadEnd
turn_of (read_turn.Ask to request) = Ask to request
turn_of (read_turn.Done end) = Tell end

abbrev pub is_ask : ReadTurn → Bool
is_ask (read_turn.Ask to request) = true
is_ask (read_turn.Done end) = false
