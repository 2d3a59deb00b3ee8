-- What a session's seat stands for.
use Rattle.std.specs.Prelude.{◌≡◌, ℕ, Bool, true, List, ◌++◌, Option, Some}
use Rattle.std.specs.List.{All}
use Rattle.txn_data.specs.declared.actor.Actor.{Actor}
use Rattle.txn_data.specs.declared.actor.Actor.TheVariants.{Session}
use Rattle.txn_data.specs.declared.command.Command.{Command}
use Rattle.txn_data.specs.declared.config.Config.{Config}
use Rattle.txn_data.specs.declared.request.Request.{Request}
use Rattle.txn_types.specs.History.{History}
use Rattle.txn_types.specs.Plan.{IsLine, IsSession}
use Rattle.txn_types.specs.Run.{Mover, Flight, Asked, mover_at, mover_after, flight_after}
use Rattle.txn_types.specs.Script as script
use Rattle.law_parts.specs.Parts.{waits}
use Rattle.session_core.specs.Core as core
use Rattle.session_core.specs.Turn.{lists}
use Rattle.session_core.specs.declared.session_core.SessionCore.{SessionCore}
use Rattle.mover_seat.specs.Step.{clock_of}
use Rattle.mover_seat.specs.Lines.{Splits}
use Rattle.mover_seat.specs.Made.{Makes}
use Rattle.mover_seat.specs.NextEvent.{session_from}
use Rattle.mover_seat.specs.declared.made.Made.{Made}
use Rattle.mover_seat.specs.Stage.{StandsAt, ahead, is_waiting, asked_of}
use Rattle.mover_seat.specs.declared.lines.Lines.{Lines}
use Rattle.mover_seat.specs.declared.stage.Stage.{Stage}
use Rattle.mover_seat.specs.declared.session_seat.SessionSeat.{SessionSeat}

-- the parts of a seat stand for session `i`, which was given these lines, of which these were begun, and which has come so
-- far, with this message on its way; `all` where no more lines come
pub record HasCome (config : Config) (i : ℕ) (given : List Command) (all : Bool) (begun : List Command) (m : Mover) (f : Flight) (c : SessionCore) (l : Lines) (at : Stage) : Type 0 where
  pub of : core.IsOf config c
  pub is : core.session_of c ≡ Session i
  pub session : IsSession i
  pub commands : m.commands ≡ core.commands_of c
  pub mover : core.mover config c ≡ ahead config (Session i) m at
  pub stage : StandsAt m f at
  pub finished : l.finished ≡ all
  pub splits : Splits given begun l.ended l.left.items
  pub lines : All (IsLine config) l.left.items
  pub clock : (line : Command) → m.line ≡ Some line → l.clock ≡ clock_of line
  pub listing : (to : Actor) (asked : Request) → f ≡ Asked to asked → lists asked ≡ true → core.reads c ≡ true

-- the entry that is made is the session's next one, and with it the parts stand for it
abbrev pub Comes : Config → ℕ → List Command → Bool → List Command → Mover → Flight → ℕ → Made → SessionCore → Lines → Type 0
Comes config i given all begun m f reading made c l =
    Makes config (Session i) (session_from given all begun m f) m f reading made
    × HasCome config i given all (begun ++ script.line_by made.event) (mover_after config (Session i) m made.reading made.event) (flight_after (Session i) f (Session i) made.event) c l made.stage

-- a seat stands for session `i` after these entries of its own, with this message on its way
pub record StandsFor (config : Config) (i : ℕ) (given : List Command) (all : Bool) (g : History) (f : Flight) (s : SessionSeat) : Type 0 where
  pub session : s.session ≡ i
  pub come : HasCome config i given all (script.lines (Session i) g) (mover_at config (Session i) g) f s.core s.lines s.stage
  pub waiting : waits g ≡ is_waiting f

-- how many lines it was given, whether no more come, and whether a read is under way
abbrev pub given_of : SessionSeat → ℕ
given_of s = s.lines.given

abbrev pub is_finished : SessionSeat → Bool
is_finished s = s.lines.finished

abbrev pub is_reading : SessionSeat → Bool
is_reading s = core.reads s.core

-- the actor that it asked, which did not answer so far
abbrev pub awaits_of : SessionSeat → Option Actor
awaits_of s = asked_of s.stage
