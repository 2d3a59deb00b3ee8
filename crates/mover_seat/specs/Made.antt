-- An entry that a mover makes, by what the mover does.
use Rattle.std.specs.Prelude.{◌≡◌, ℕ, ◌+◌, true, Option, None}
use Rattle.txn_data.specs.declared.actor.Actor.{Actor}
use Rattle.txn_data.specs.declared.command.Command.{Command}
use Rattle.txn_data.specs.declared.config.Config.{Config}
use Rattle.txn_data.specs.declared.event.Event.{Event}
use Rattle.txn_data.specs.declared.event.Event.TheVariants.{Start, Ask, Hear, Tell}
use Rattle.txn_data.specs.declared.reply.Reply.{Reply}
use Rattle.txn_data.specs.declared.request.Request.{Request}
use Rattle.txn_data.specs.declared.told.Told.{Told}
use Rattle.txn_types.specs.Program as program
use Rattle.txn_types.specs.Program.{turn_with}
use Rattle.txn_types.specs.Run.{Mover, Flight, Quiet, Answered, MayStart, CanTell, IsUnderWay}
use Rattle.txn_types.specs.Script.{clock_by, ReadsRight}
use Rattle.mover_chain.specs.NextEvent.{NextEvent, Starts, is_left}
use Rattle.mover_seat.specs.Step.{moved_of, told_clock}
use Rattle.mover_seat.specs.declared.made.Made.{Made}
use Rattle.mover_seat.specs.declared.moved.Moved.{Moved}
use Rattle.mover_seat.specs.declared.moved.Moved.TheVariants as moved
use Rattle.mover_seat.specs.declared.stage.Stage.{Stage}
use Rattle.mover_seat.specs.declared.stage.Stage.TheVariants as stage

-- it starts a line, and then stands there
abbrev pub starts_made : ℕ → Command → Stage → Made
starts_made number line at = record { reading = None; event = Start number line; moved = moved.Event; stage = at }

-- it asks
abbrev pub asks_made : Option ℕ → Actor → Request → Made
asks_made reading to asked = record { reading = reading; event = Ask to asked; moved = moved.Event; stage = stage.Awaits to }

-- it hears, and then stands there
abbrev pub hears_made : Actor → Reply → Stage → Made
hears_made from r at = record { reading = None; event = Hear from r; moved = moved.Event; stage = at }

-- a command whose line has this clock is told
abbrev pub tells_made : Option ℕ → ℕ → Moved → Told → Made
tells_made reading number clock t = record { reading = reading; event = Tell number t; moved = told_clock clock t; stage = stage.Between }

-- what mover `a` may do next, having come so far, with this message on its way
abbrev pub MayMake : Config → Actor → Mover → Flight → Option ℕ → Event → Type 0
MayMake config a m f reading (Start number line) = (m.line ≡ None) × (number ≡ m.commands + 1) × (reading ≡ None) × MayStart config a m line × (f ≡ Quiet)
MayMake config a m f reading (Ask to asked) = IsUnderWay m.line × (f ≡ Quiet) × (turn_with m.rest reading ≡ program.Ask to asked)
MayMake config a m f reading (Hear from r) = (reading ≡ None) × (f ≡ Answered from r)
MayMake config a m f reading (Tell number t) = IsUnderWay m.line × (f ≡ Quiet) × (number ≡ m.commands) × CanTell m reading t
MayMake config a m f reading event = ⊥

-- what is made is the next event of the mover
pub record Makes (config : Config) (a : Actor) (next : NextEvent) (m : Mover) (f : Flight) (reading : ℕ) (made : Made) : Type 0 where
  pub left : is_left next ≡ true
  pub may : MayMake config a m f made.reading made.event
  pub starts : (number : ℕ) (line : Command) → made.event ≡ Start number line → next ≡ Starts line
  pub reads : ReadsRight reading made.reading
  pub moved : made.moved ≡ moved_of (clock_by m.line made.event)
