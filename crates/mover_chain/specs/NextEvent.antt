-- What a mover does next, and whether it has an event left.
use Rattle.std.specs.Prelude.{◌≡◌, ℕ, ◌+◌, Bool, true, false, ◌&&◌, not, List, [], ◌∷◌, Option, Some, None, nat_eq, nat_lt, if◌then◌else◌, length, drop, is_some}
use Rattle.std.specs.List.{list_all}
use Rattle.txn_data.specs.declared.actor.Actor.{Actor}
use Rattle.txn_data.specs.declared.actor.Actor.TheVariants.{Session, Applier}
use Rattle.txn_data.specs.declared.request.Request.{Request}
use Rattle.txn_data.specs.declared.reply.Reply.{Reply}
use Rattle.txn_data.specs.declared.told.Told.{Told}
use Rattle.txn_data.specs.declared.command.Command.{Command}
use Rattle.txn_data.specs.declared.command.Command.TheVariants as command
use Rattle.txn_data.specs.declared.session_plan.SessionPlan.{SessionPlan}
use Rattle.txn_data.specs.declared.commands.Commands.{Commands}
use Rattle.txn_data.specs.declared.config.Config.{Config}
use Rattle.txn_data.specs.declared.event.Event.TheVariants.{Start}
use Rattle.txn_data.specs.declared.entry.Entry.{Entry}
use Rattle.txn_types.specs.History.{History}
use Rattle.txn_types.specs.Program.{Program, Turn, turn_with}
use Rattle.txn_types.specs.Session.{Opened}
use Rattle.txn_types.specs.Run.{Flight, Quiet, Asked, Answered, flight, mover_at}
use Rattle.txn_types.specs.Script.{lines, commands_of, asker, started, passes_counted, number_at, node_of, ReadsRight}

-- the lines that sessions were given so far, and whether no more come
pub record Given : Type 0 where
  pub sessions : List SessionPlan
  pub all : Bool

-- all lines of a plan
abbrev pub given_by : Commands → Given
given_by plan = record { sessions = plan.sessions; all = true }

-- what a mover does next as long as memory is there: it starts a line; the machine that it asked serves it; it hears a reply;
-- or its program comes to this, that it asks or is told. If a reading is wanted for that, the Ask or Tell has it. Or the
-- mover has no event left. If memory runs out, a mover may hear so in place of what is to be served, and be told so in place
-- of going on: there it has an event left too.
pub data NextEvent : Type 0 where
  NoneLeft : NextEvent
  Starts : (line : Command) → NextEvent
  Served : (by : Actor) (request : Request) → NextEvent
  Hears : (from : Actor) (reply : Reply) → NextEvent
  Turns : (turn : Turn Told) → NextEvent

-- with a command under way: the message on its way comes first
abbrev pub goes_on : Flight → Program Told → NextEvent
goes_on Quiet rest = Turns (turn_with rest None)
goes_on (Asked to asked) rest = Served to asked
goes_on (Answered from r) rest = Hears from r

-- between commands: the next of the lines that are left, or else End where it may end
abbrev pub starts_next : List Command → Bool → NextEvent
starts_next (line ∷ more) may_end = Starts line
starts_next [] true = Starts command.End
starts_next [] false = NoneLeft

-- a session ends where no more lines come, all were started and no End was, and a transaction is open
abbrev pub may_end : Bool → List Command → List Command → Option Opened → Bool
may_end all begun given opened = all && nat_eq (length begun) (length given) && is_some opened

abbrev pub session_starts : Bool → List Command → List Command → Option Opened → NextEvent
session_starts all begun given opened = starts_next (drop (length begun) given) (may_end all begun given opened)

abbrev pub session_next : Bool → List Command → Config → ℕ → History → NextEvent
session_next all given config i h =
    let m = mover_at config (Session i) h in
    elim m.line [
      | Some line ↦ goes_on (flight (Session i) h) m.rest
      | None ↦ session_starts all (lines (Session i) h) given m.keeps.opened
    ]

abbrev pub is_left : NextEvent → Bool
is_left NoneLeft = false
is_left next = true

-- no more lines come, and each session was told its last command
abbrev pub is_done : Given → Config → History → SessionPlan → Bool
is_done given config h p = not (is_left (session_next given.all (commands_of p.session given.sessions) config p.session h))

abbrev pub all_done : Given → Config → History → Bool
all_done given config h = given.all && list_all (is_done given config h) given.sessions

-- an applier makes its passes beside the sessions, and a last one once all of that is done
abbrev pub pass_starts : ℕ → ℕ → ℕ → Bool → NextEvent
pass_starts k passes begun done =
    if nat_lt begun passes then Starts (command.Apply k)
    else (if nat_eq begun passes && done then Starts (command.Apply k) else NoneLeft)

abbrev pub applier_next : Given → Config → ℕ → History → NextEvent
applier_next given config k h =
    let m = mover_at config (Applier k) h in
    elim m.line [
      | Some line ↦ goes_on (flight (Applier k) h) m.rest
      | None ↦ pass_starts k config.passes (started (Applier k) h) (all_done given config h)
    ]

-- what a mover does next; an applier whose tablet is not there does nothing
abbrev pub next_event : Given → Config → Actor → History → NextEvent
next_event given config (Session i) h = session_next given.all (commands_of i given.sessions) config i h
next_event given config (Applier k) h = if nat_lt k config.tablets then applier_next given config k h else NoneLeft
next_event given config a h = NoneLeft

-- the number of the command or pass that the next event is of
abbrev pub number_of_next : ℕ → Option Command → ℕ
number_of_next begun (Some line) = begun
number_of_next begun None = begun + 1

-- whether a mover has an event left, an applier's last pass not counted
abbrev pub has_event : Given → Config → Actor → History → Bool
has_event given config a h =
    is_left (next_event given config a h)
    && passes_counted config a (number_of_next (started a h) (mover_at config a h).line)

-- an entry is the move of this mover: it makes the entry itself, or asked for what the entry serves; it has an event left; a
-- line that it starts is its next one; and a reading is the one given for the node of the entry's actor
pub record IsMove (given : Given) (config : Config) (readings : List ℕ) (a : Actor) (h : History) (e : Entry) : Type 0 where
  pub by : asker e ≡ a
  pub left : is_left (next_event given config a h) ≡ true
  pub starts : (number : ℕ) (line : Command) → e.event ≡ Start number line → next_event given config a h ≡ Starts line
  pub reads : ReadsRight (number_at (node_of config e.actor) readings) e.reading
