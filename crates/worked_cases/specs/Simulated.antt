-- A plain simulation over the tables: the histories that scripts come to, one move after another.
use Rattle.std.specs.Prelude.{ℕ, zero, suc, ◌+◌, Bool, true, false, ◌&&◌, List, [], ◌∷◌, Option, Some, None, nat_eq, length, drop, map, reverse}
use Rattle.txn_data.specs.Time.{takes_time}
use Rattle.txn_data.specs.declared.actor.Actor.{Actor}
use Rattle.txn_data.specs.declared.actor.Actor.TheVariants.{Session, Applier}
use Rattle.txn_data.specs.declared.command.Command.{Command}
use Rattle.txn_data.specs.declared.command.Command.TheVariants as command
use Rattle.txn_data.specs.declared.commands.Commands.{Commands}
use Rattle.txn_data.specs.declared.request.Request.{Request}
use Rattle.txn_data.specs.declared.request.Request.TheVariants as request
use Rattle.txn_data.specs.declared.told.Told.{Told}
use Rattle.txn_data.specs.declared.config.Config.{Config}
use Rattle.txn_data.specs.declared.event.Event.{Event}
use Rattle.txn_data.specs.declared.event.Event.TheVariants.{Start, Ask, Serve, Hear, Tell, Restarted}
use Rattle.txn_data.specs.declared.entry.Entry.{Entry}
use Rattle.txn_types.specs.Lists.{or_zero}
use Rattle.txn_types.specs.History.{History, own, same_actor}
use Rattle.txn_types.specs.Clock.{has_failed}
use Rattle.txn_types.specs.Program as program
use Rattle.txn_types.specs.Program.{Turn, turn_with}
use Rattle.txn_types.specs.Run.{Mover, Flight, mover_at, flight, Quiet, Asked, Answered, machine_answer}
use Rattle.txn_types.specs.Session.{Opened}
use Rattle.txn_types.specs.Script.{reading_of, node_of, lines, commands_of}
use Rattle.txn_types.specs.Cause.{ToldAt, tells}

abbrev pub entry : Actor → Option ℕ → Event → Entry
entry a reading event = record { actor = a; reading = reading; event = event }

abbrev pub reading_for : Config → Actor → History → Bool → Option ℕ
reading_for config a h true = Some (reading_of config (node_of config a) h)
reading_for config a h false = None

-- one append that fails: that of the action with this number of this actor; and whether the restart after it keeps it
pub record Fault : Type 0 where
  pub actor : Actor
  pub number : ℕ
  pub kept : Bool

abbrev pub no_fault : Fault
no_fault = record { actor = Applier 0; number = 0; kept = false }

abbrev pub fails_now : Fault → Actor → History → Bool
fails_now f a h = same_actor f.actor a && nat_eq f.number (length (own a h) + 1)

-- an actor serves a request
abbrev pub serve : Config → Fault → Actor → Actor → Request → History → History
serve config f a from request.Restart h = entry a None (Restarted from (f.kept && has_failed (own a h))) ∷ h
serve config f a from asked h =
    let reading = reading_for config a h (takes_time asked) in
    let answer = machine_answer config.lease_us a (own a h) (fails_now f a h) (or_zero reading) asked in
    entry a reading (Serve from asked answer.reply answer.time answer.append) ∷ h

abbrev pub turned : Config → Actor → Option ℕ → ℕ → Turn Told → History → History
turned config a reading number (program.Ask to asked) h = entry a reading (Ask to asked) ∷ h
turned config a reading number (program.Tell t) h = entry a reading (Tell number t) ∷ h
turned config a reading number program.Reading h = h

abbrev pub next_turn : Config → Actor → Mover → History → Turn Told → History
next_turn config a m h program.Reading =
    let reading = Some (reading_of config (node_of config a) h) in
    turned config a reading m.commands (turn_with m.rest reading) h
next_turn config a m h t = turned config a None m.commands t h

-- one move of a mover whose command is under way, where this is the flight of its message
abbrev pub move_in : Config → Fault → Actor → History → Flight → History
move_in config f a h (Asked to asked) = serve config f to a asked h
move_in config f a h (Answered from r) = entry a None (Hear from r) ∷ h
move_in config f a h Quiet = let m = mover_at config a h in next_turn config a m h (turn_with m.rest None)

abbrev pub move : Config → Fault → Actor → History → History
move config f a h = move_in config f a h (flight a h)

-- at most n moves, until the command is told
abbrev pub moved : Config → Fault → Actor → ℕ → History → History
moved config f a zero h = h
moved config f a (suc n) h =
    elim (mover_at config a h).line [ Some line ↦ moved config f a n (move config f a h) | None ↦ h ]

abbrev pub start : Config → Actor → Command → History → History
start config a line h = entry a None (Start ((mover_at config a h).commands + 1) line) ∷ h

-- commands whole, one after another
abbrev pub all_done : Config → Fault → List (Actor × Command) → History → History
all_done config f [] h = h
all_done config f (c ∷ cs) h = all_done config f cs (moved config f c.0 200 (start config c.0 c.1 h))

-- the next event of a mover's chain: it starts the next line of its plan, or End where it is done and has a transaction open
abbrev pub next_line : Option Opened → List Command → Option Command
next_line opened (line ∷ more) = Some line
next_line (Some x) [] = Some command.End
next_line None [] = None

abbrev pub lines_left : Commands → Actor → History → List Command
lines_left plan (Session i) h = drop (length (lines (Session i) h)) (commands_of i plan.sessions)
lines_left plan (Applier k) h = command.Apply k ∷ []
lines_left plan a h = []

abbrev pub start_any : Config → Actor → Option Command → History → History
start_any config a (Some line) h = start config a line h
start_any config a None h = h

abbrev pub event : Config → Commands → Actor → History → History
event config plan a h = elim (mover_at config a h).line [
  | Some line ↦ move config no_fault a h
  | None ↦ start_any config a (next_line (mover_at config a h).keeps.opened (lines_left plan a h)) h
]

-- a list of movers, each with how many events it goes on
abbrev pub events : Config → Commands → Actor → ℕ → History → History
events config plan a zero h = h
events config plan a (suc n) h = events config plan a n (event config plan a h)

abbrev pub by_turns : Config → Commands → List (Actor × ℕ) → History → History
by_turns config plan [] h = h
by_turns config plan (t ∷ ts) h = by_turns config plan ts (events config plan t.0 t.1 h)

abbrev pub what_was_told : ToldAt → Told
what_was_told t = t.told

-- what was told, in its order
abbrev pub told_in : History → List Told
told_in h = reverse (map what_was_told (tells h))

abbrev pub told_by : Config → List (Actor × Command) → List Told
told_by config cs = told_in (all_done config no_fault cs [])
