-- Where a mover stands between two entries of its own.
use Rattle.std.specs.Prelude.{◌≡◌, Bool, true, false, ◌&&◌, ◌||◌, not, Option, Some, None, Result, Ok, Err}
use Rattle.txn_data.specs.declared.actor.Actor.{Actor}
use Rattle.txn_data.specs.declared.config.Config.{Config}
use Rattle.txn_data.specs.declared.event.Event.TheVariants as event
use Rattle.txn_data.specs.declared.told.Told.TheVariants as told
use Rattle.txn_data.specs.declared.told_refusal.ToldRefusal.TheVariants as told_refusal
use Rattle.txn_types.specs.Program.{Reading, Ask, turn_with}
use Rattle.txn_types.specs.Run.{Mover, mover_after, Flight, Quiet, Asked, Answered, CanTell, IsUnderWay}
use Rattle.session_core.specs.Core.{is_idle, wants_reading, awaits_reply, reads}
use Rattle.session_core.specs.Lines.{is_listed}
use Rattle.session_core.specs.Turn.{lists}
use Rattle.session_core.specs.declared.session_core.SessionCore.{SessionCore}
use Rattle.session_core.specs.declared.turn.Turn.{Turn as Made}
use Rattle.session_core.specs.declared.turn.Turn.TheVariants as made
use Rattle.mover_seat.specs.declared.stage.Stage.{Stage}
use Rattle.mover_seat.specs.declared.stage.Stage.TheVariants as stage

-- the actor that was asked, as long as it did not answer
abbrev pub awaited : Flight → Option Actor
awaited (Asked to asked) = Some to
awaited f = None

-- a message of the mover is on its way
abbrev pub is_waiting : Flight → Bool
is_waiting Quiet = false
is_waiting f = true

-- with a command under way and no message on its way
pub record IsDue (m : Mover) (f : Flight) : Type 0 where
  pub under_way : IsUnderWay m.line
  pub quiet : f ≡ Quiet

-- a mover that has come so far, with this message on its way, stands there
abbrev pub StandsAt : Mover → Flight → Stage → Type 0
StandsAt m f stage.Between = (m.line ≡ None) × (f ≡ Quiet)
StandsAt m f stage.Reads = IsDue m f × (turn_with m.rest None ≡ Reading)
StandsAt m f (stage.Asks to asked) = IsDue m f × (turn_with m.rest None ≡ Ask to asked)
StandsAt m f (stage.Tells t) = IsDue m f × CanTell m None t
StandsAt m f (stage.Awaits to) = IsUnderWay m.line × (awaited f ≡ Some to)
StandsAt m f (stage.Hears from r) = IsUnderWay m.line × (f ≡ Answered from r)

-- a session's core is one entry ahead of what it recorded, where it knows what it asks or is told
abbrev pub ahead : Config → Actor → Mover → Stage → Mover
ahead config a m (stage.Asks to asked) = mover_after config a m None (event.Ask to asked)
ahead config a m (stage.Tells t) = mover_after config a m None (event.Tell m.commands t)
ahead config a m at = m

-- what may be called of the core
abbrev pub does_fit : SessionCore → Stage → Bool
does_fit core stage.Between = is_idle core
does_fit core stage.Reads = wants_reading core
does_fit core (stage.Asks to asked) = awaits_reply core && (not (lists asked) || reads core)
does_fit core (stage.Tells t) = is_idle core
does_fit core (stage.Awaits to) = awaits_reply core
does_fit core (stage.Hears from r) = awaits_reply core && (not (is_listed r) || reads core)

-- it waits for a reply that did not come so far
abbrev pub does_await : Stage → Bool
does_await (stage.Awaits to) = true
does_await at = false

abbrev pub asked_of : Stage → Option Actor
asked_of (stage.Awaits to) = Some to
asked_of at = None

-- where a session stands after this answer of its core
abbrev pub stage_after : {E : Type 0} → Result Made E → Stage
stage_after (Ok made.Reading) = stage.Reads
stage_after (Ok (made.Ask to asked)) = stage.Asks to asked
stage_after (Ok (made.Tell t)) = stage.Tells t
stage_after (Err memory) = stage.Tells (told.Refused told_refusal.Memory)
