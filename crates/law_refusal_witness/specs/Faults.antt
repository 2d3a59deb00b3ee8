-- Runs in which an append fails of what a put or a del asked.
use Rattle.std.specs.Prelude.{◌≡◌, Bool, true, false, [], ◌∷◌, None}
use Rattle.txn_data.specs.declared.actor.Actor.TheVariants.{Tablet, Status}
use Rattle.txn_data.specs.declared.command.Command.TheVariants as command
use Rattle.txn_data.specs.declared.refusal.Refusal.TheVariants as refusal
use Rattle.txn_data.specs.declared.reply.Reply.TheVariants as reply
use Rattle.txn_data.specs.declared.request.Request.TheVariants as request
use Rattle.txn_data.specs.declared.told_refusal.ToldRefusal.TheVariants as why
use Rattle.txn_types.specs.Lists.{Member}
use Rattle.txn_types.specs.History.{History, own}
use Rattle.txn_types.specs.Tablet.{provisional, has_any}
use Rattle.txn_types.specs.Run.{mover_at}
use Rattle.txn_types.specs.Cause.{ServedAt, served_since}
use Rattle.worked_cases.specs.Simulated.{Fault}
use Rattle.law_witness.specs.Endings.{earlier}
use Rattle.law_witness.specs.Scripts.{Script, other_val}
use Rattle.law_witness.specs.Witness.{small, place, val, x, writer, reader, tablet}
use Rattle.law_refusal_witness.specs.Refused.{WasRefused, AgreeingRun, of_reader}

-- ## the Abort that closes is refused

-- the fourth action of the status tablet, which is that Abort: two begins and a Resolve come before it
abbrev pub closing_fault : Fault
closing_fault = record { actor = Status 0; number = 4; kept = false }

-- the reader meets the writer's pending transaction with an equal priority
abbrev pub closing_fails : Script
closing_fails =
    (writer, command.Begin 0) ∷ (reader, command.Begin 0) ∷ (writer, command.Put place val) ∷ (reader, command.Put place other_val) ∷ []

-- the Abort of the command told last was answered with a fault of the log
pub record ClosingFailed (h : History) : Type 0 where
  pub served : ServedAt
  pub here : Member served (served_since reader h)
  pub asked : served.asked ≡ request.Abort (of_reader 1)
  pub answered : served.reply ≡ reply.Refused refusal.LogFault

pub record ShowsRefusedClosing (h : History) : Type 0 where
  pub is_run : AgreeingRun small h
  pub conflicts : WasRefused small h reader (command.Put place other_val) (why.Conflict x)
  pub failed : ClosingFailed (earlier h)
  pub closed : (mover_at small reader h).keeps.opened ≡ None

-- ## a write fails

-- the second action of the tablet, which is the write: the listing comes before it
abbrev pub write_kept : Fault
write_kept = record { actor = Tablet 0; number = 2; kept = true }

abbrev pub write_lost : Fault
write_lost = record write_kept { kept = false }

abbrev pub write_fails : Script
write_fails = (writer, command.Begin 0) ∷ (writer, command.Put place val) ∷ (reader, command.Restart tablet) ∷ []

-- after the restart something of the transaction is provisional, or nothing
pub record ShowsFailedWrite (h : History) (left : Bool) : Type 0 where
  pub is_run : AgreeingRun small h
  pub append_failed : WasRefused small h writer (command.Put place val) (why.LogFault tablet)
  pub closed : (mover_at small writer h).keeps.opened ≡ None
  pub stands : has_any x (provisional (own tablet h)) ≡ left
