-- A session in the middle of a command, as a mover of the tables.
use Rattle.std.specs.Prelude.{ℕ, true, [], Option, Some, None}
use Rattle.txn_data.specs.declared.config.Config.{Config}
use Rattle.txn_types.specs.TxnProgram.{lost}
use Rattle.txn_types.specs.Session.{Keeps}
use Rattle.txn_types.specs.Run.{Mover, limits_of}
use Rattle.session_core.specs.Work.{work_rest, limits_now}
use Rattle.session_core.specs.declared.command_in_flight.CommandInFlight.{CommandInFlight}

-- between two commands
abbrev pub between : Keeps → ℕ → Mover
between s commands = record { keeps = s; commands = commands; line = None; rest = lost; reading = None; limits = []; may_lose = true }

-- within one
abbrev pub within : Config → ℕ → Keeps → ℕ → CommandInFlight → Mover
within config i s commands u = record {
  keeps = s;
  commands = commands;
  line = Some u.line;
  rest = work_rest config i s u.line u.work;
  reading = u.reading;
  limits = limits_now (limits_of s.opened) u.work;
  may_lose = u.may_lose;
}

abbrev pub mover_on : Config → ℕ → Keeps → ℕ → Option CommandInFlight → Mover
mover_on config i s commands None = between s commands
mover_on config i s commands (Some u) = within config i s commands u
