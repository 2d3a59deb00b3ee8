-- The commands and moves of the lines so far, as a plan.
use Rattle.txn_data.specs.declared.commands.Commands.{Commands}
use Rattle.script_text.specs.declared.said.Said.{Said}

abbrev pub said_of : Said → Commands
said_of said = record { sessions = said.sessions.items; order = said.order.items; go = said.go.items }
