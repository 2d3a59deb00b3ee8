-- One step of a mover: the entry that it makes, and whether a clock was told by it.
use Rattle.std.specs.Prelude.{◌≡◌, ℕ, true, Option, Some, None}
use Rattle.txn_data.specs.declared.actor.Actor.{Actor}
use Rattle.txn_data.specs.declared.command.Command.{Command}
use Rattle.txn_data.specs.declared.command.Command.TheVariants as command
use Rattle.txn_data.specs.declared.config.Config.{Config}
use Rattle.txn_data.specs.declared.event.Event.TheVariants.{Start, Hear}
use Rattle.txn_data.specs.declared.told.Told.{Told}
use Rattle.txn_data.specs.declared.told.Told.TheVariants as told
use Rattle.txn_data.specs.declared.reply.Reply.{Reply}
use Rattle.txn_data.specs.declared.reply.Reply.TheVariants as reply
use Rattle.txn_data.specs.declared.refusal.Refusal.TheVariants as refusal
use Rattle.txn_types.specs.History.{History}
use Rattle.txn_types.specs.Run.{Flight, Answered, mover_at}
use Rattle.txn_types.specs.Script.{clock_by, ReadsRight}
use Rattle.law_parts.specs.Parts.{OwnAllowed}
use Rattle.mover_chain.specs.NextEvent.{NextEvent, Starts, is_left}
use Rattle.mover_seat.specs.declared.moved.Moved.{Moved}
use Rattle.mover_seat.specs.declared.moved.Moved.TheVariants as moved
use Rattle.mover_seat.specs.declared.step.Step.{Step}

-- a clock that was told, as a move
abbrev pub moved_of : Option (ℕ × ℕ) → Moved
moved_of None = moved.Event
moved_of (Some (node, micros)) = moved.Clock node micros

-- the clock of a line
abbrev pub clock_of : Command → Moved
clock_of (command.Clock node micros) = moved.Clock node micros
clock_of line = moved.Event

-- what telling this makes of a line with this clock
abbrev pub told_clock : Moved → Told → Moved
told_clock clock told.Set = clock
told_clock clock t = moved.Event

-- a step of mover `a`, which has this event next, after these entries of its own and with this message on its way: its
-- table allows the entry; a reply that it hears is the one that came; a line that it starts is its next one; and a
-- reading in the entry is the one given
pub record IsStep (config : Config) (a : Actor) (next : NextEvent) (reading : ℕ) (g : History) (f : Flight) (step : Step) : Type 0 where
  pub left : is_left next ≡ true
  pub actor : step.entry.actor ≡ a
  pub allowed : OwnAllowed config a g step.entry.reading step.entry.event
  pub heard : (from : Actor) (r : Reply) → step.entry.event ≡ Hear from r → f ≡ Answered from r
  pub starts : (number : ℕ) (line : Command) → step.entry.event ≡ Start number line → next ≡ Starts line
  pub reads : ReadsRight reading step.entry.reading
  pub moved : step.moved ≡ moved_of (clock_by (mover_at config a g).line step.entry.event)

-- a step of mover `a` that hears out of memory in place of the reply of this actor. It has this event next, after these
-- entries of its own; its table allows the entry
pub record HearsMemory (config : Config) (a : Actor) (next : NextEvent) (g : History) (from : Actor) (step : Step) : Type 0 where
  pub left : is_left next ≡ true
  pub actor : step.entry.actor ≡ a
  pub allowed : OwnAllowed config a g step.entry.reading step.entry.event
  pub hears : step.entry.event ≡ Hear from (reply.Refused refusal.Memory)
  pub reading : step.entry.reading ≡ None
  pub moved : step.moved ≡ moved_of (clock_by (mover_at config a g).line step.entry.event)
