-- Where a mover stands after an answer of its core, and what it makes there.
use Rattle.std.proofs.Common.{◌≡◌, ℕ, true, Option, Some, None, refl, sym, ap, ◌∙◌, inl, inr}
use Rattle.std.specs.Prelude.{Result, Ok, Err}
use Rattle.txn_data.specs.declared.actor.Actor.{Actor}
use Rattle.txn_data.specs.declared.command.Command.{Command}
use Rattle.txn_data.specs.declared.command.Command.TheVariants as command
use Rattle.txn_data.specs.declared.config.Config.{Config}
use Rattle.txn_data.specs.declared.event.Event.TheVariants.{Ask, Hear, Tell}
use Rattle.txn_data.specs.declared.reply.Reply.{Reply}
use Rattle.txn_data.specs.declared.request.Request.{Request}
use Rattle.txn_data.specs.declared.told.Told.{Told}
use Rattle.txn_data.specs.declared.told.Told.TheVariants as told
use Rattle.txn_types.specs.Program.{Program, turn_with}
use Rattle.txn_types.specs.Program as program
use Rattle.txn_types.specs.Run.{Mover, Flight, Quiet, Asked, Answered, CanTell, IsUnderWay}
use Rattle.txn_types.specs.Script.{clock_by, ReadsRight}
use Rattle.session_core.specs.Core.{Answered as AnsweredBy}
use Rattle.session_core.specs.declared.turn.Turn.{Turn}
use Rattle.session_core.specs.declared.turn.Turn.TheVariants as turn
use Rattle.mover_chain.specs.NextEvent.{NextEvent, goes_on, is_left}
use Rattle.mover_seat.specs.Made.{asks_made, hears_made, tells_made, Makes}
use Rattle.mover_seat.specs.Stage.{StandsAt, IsDue, ahead, stage_after}
use Rattle.mover_seat.specs.Step.{moved_of, clock_of, told_clock}
use Rattle.mover_seat.specs.declared.moved.Moved.{Moved}
use Rattle.mover_seat.specs.declared.stage.Stage.{Stage}

-- after an answer of the core that took no reading
pub answered_at : {E : Type 0} (config : Config) (a : Actor) (m after : Mover) (f : Flight) (r : Result Turn E) → AnsweredBy config a m None after r → IsDue m f → StandsAt m f (stage_after r) × (after ≡ ahead config a m (stage_after r))
answered_at config a m after f (Ok turn.Reading) is due = ((due, sym is.0), is.1)
answered_at config a m after f (Ok (turn.Ask to asked)) is due = ((due, sym is.0), is.1)
answered_at config a m after f (Ok (turn.Tell t)) is due = ((due, inl (sym is.0)), is.1)
answered_at config a m after f (Err memory) is due = ((due, inr (refl, is.0, refl)), is.1)

-- a mover with a command under way has an event left
pub left_when : (line : Option Command) (f : Flight) (rest : Program Told) (other : NextEvent) → IsUnderWay line → is_left (elim line [ Some x ↦ goes_on f rest | None ↦ other ]) ≡ true
left_when None f rest other is = absurd is
left_when (Some line) Quiet rest other is = refl
left_when (Some line) (Asked to asked) rest other is = refl
left_when (Some line) (Answered from r) rest other is = refl

-- only a Tell may tell a clock
clock_of_ask : (line : Option Command) (to : Actor) (asked : Request) → clock_by line (Ask to asked) ≡ None
clock_of_ask None to asked = refl
clock_of_ask (Some (command.Clock node micros)) to asked = refl
clock_of_ask (Some line) to asked = refl

clock_of_hear : (line : Option Command) (from : Actor) (r : Reply) → clock_by line (Hear from r) ≡ None
clock_of_hear None from r = refl
clock_of_hear (Some (command.Clock node micros)) from r = refl
clock_of_hear (Some line) from r = refl

clock_of_line : (line : Command) (number : ℕ) (t : Told) → told_clock (clock_of line) t ≡ moved_of (clock_by (Some line) (Tell number t))
clock_of_line (command.Clock node micros) number told.Set = refl
clock_of_line (command.Clock node micros) number t = refl
clock_of_line line number told.Set = refl
clock_of_line line number t = refl

pub clock_told : (line : Option Command) (clock : Moved) (number : ℕ) (t : Told) → IsUnderWay line → ((x : Command) → line ≡ Some x → clock ≡ clock_of x) → told_clock clock t ≡ moved_of (clock_by line (Tell number t))
clock_told None clock number t under is = absurd under
clock_told (Some line) clock number t under is = ap (λ (c : Moved). told_clock c t) (is line refl) ∙ clock_of_line line number t

-- ## what is made

pub asks_makes : (config : Config) (a : Actor) (next : NextEvent) (m : Mover) (f : Flight) (given : ℕ) (reading : Option ℕ) (to : Actor) (asked : Request) → is_left next ≡ true → IsDue m f → ReadsRight given reading →
    turn_with m.rest reading ≡ program.Ask to asked → Makes config a next m f given (asks_made reading to asked)
asks_makes config a next m f given reading to asked left due reads is = record {
  left = left;
  may = (due.under_way, due.quiet, is);
  starts = λ number line e. cc;
  reads = reads;
  moved = sym (ap moved_of (clock_of_ask m.line to asked));
}

pub hears_makes : (config : Config) (a : Actor) (next : NextEvent) (m : Mover) (f : Flight) (given : ℕ) (from : Actor) (r : Reply) (at : Stage) → is_left next ≡ true → f ≡ Answered from r →
    Makes config a next m f given (hears_made from r at)
hears_makes config a next m f given from r at left is = record {
  left = left;
  may = (refl, is);
  starts = λ number line e. cc;
  reads = tt;
  moved = sym (ap moved_of (clock_of_hear m.line from r));
}

pub tells_makes : (config : Config) (a : Actor) (next : NextEvent) (m : Mover) (f : Flight) (given : ℕ) (reading : Option ℕ) (number : ℕ) (clock : Moved) (t : Told) → is_left next ≡ true → IsDue m f → ReadsRight given reading →
    number ≡ m.commands → CanTell m reading t → ((line : Command) → m.line ≡ Some line → clock ≡ clock_of line) → Makes config a next m f given (tells_made reading number clock t)
tells_makes config a next m f given reading number clock t left due reads many can is = record {
  left = left;
  may = (due.under_way, due.quiet, many, can);
  starts = λ n line e. cc;
  reads = reads;
  moved = clock_told m.line clock number t due.under_way is;
}
