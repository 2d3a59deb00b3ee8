-- A session as a mover of the tables, and what a call makes of it.
use Rattle.std.specs.Prelude.{◌≡◌, ℕ, Bool, true, false, Option, Some, None, Result, Ok, Err, is_none}
use Rattle.txn_data.specs.declared.actor.Actor.{Actor}
use Rattle.txn_data.specs.declared.actor.Actor.TheVariants.{Session}
use Rattle.txn_data.specs.declared.config.Config.{Config}
use Rattle.txn_data.specs.declared.event.Event.TheVariants as event
use Rattle.txn_data.specs.declared.told.Told.{Told}
use Rattle.txn_data.specs.declared.told.Told.TheVariants as told
use Rattle.txn_data.specs.declared.told_refusal.ToldRefusal.TheVariants as told_refusal
use Rattle.txn_types.specs.Program.{Turn, Reading, Ask, Tell, turn, turn_with}
use Rattle.txn_types.specs.Lists.{or_else}
use Rattle.txn_types.specs.Run.{Mover, mover_after}
use Rattle.session_core.specs.SessionState as state
use Rattle.session_core.specs.Mover.{mover_on}
use Rattle.session_core.specs.Turn.{turn_of, lists}
use Rattle.session_core.specs.Work.{waits, is_reading, is_read}
use Rattle.session_core.specs.declared.session_core.SessionCore.{SessionCore}
use Rattle.session_core.specs.declared.turn.Turn.{Turn as Made}
use Rattle.session_core.specs.declared.turn.Turn.TheVariants as made
use Rattle.session_core.specs.declared.command_in_flight.CommandInFlight.{CommandInFlight}

-- the mover that a session is
unfoldable pub mover : Config → SessionCore → Mover
mover config c = mover_on config c.state.session (state.keeps c.state) c.commands c.in_flight

-- its number, its node, its status tablet, the most by which clocks differ, and how many commands it began
abbrev pub number_of : SessionCore → ℕ
number_of c = c.state.session

abbrev pub node_of : SessionCore → ℕ
node_of c = c.node

abbrev pub status_of : SessionCore → ℕ
status_of c = c.state.status

abbrev pub skew_of : SessionCore → ℕ
skew_of c = c.state.skew_us

abbrev pub commands_of : SessionCore → ℕ
commands_of c = c.commands

abbrev pub session_of : SessionCore → Actor
session_of c = Session (number_of c)

-- a session of this cluster, which gives it its status tablet and the skew
abbrev pub IsOf : Config → SessionCore → Type 0
IsOf config c = state.IsOf config c.state

-- it keeps its number, its status tablet and the skew
abbrev pub IsNamed : SessionCore → SessionCore → Type 0
IsNamed old new = state.IsNamed old.state new.state

-- the mover after the entry that a turn makes, which has this reading
abbrev pub turned : Config → Actor → Mover → Option ℕ → Turn Told → Mover
turned config a m reading Reading = m
turned config a m reading (Ask to asked) = mover_after config a m reading (event.Ask to asked)
turned config a m reading (Tell t) = mover_after config a m reading (event.Tell m.commands t)

-- the command ends with out of memory
abbrev pub gave_up : Config → Actor → Mover → Mover
gave_up config a m = mover_after config a m None (event.Tell m.commands (told.Refused told_refusal.Memory))

-- what a call makes of a mover, given this reading: the turn that comes next in its program, and the mover after the entry of that turn;
-- or out of memory, where it may be told that
abbrev pub Answered : {E : Type 0} → Config → Actor → Mover → Option ℕ → Mover → Result Made E → Type 0
Answered config a m reading after (Ok t) = (turn_of t ≡ turn_with m.rest reading) × (after ≡ turned config a m reading (turn_of t))
Answered config a m reading after (Err e) = (m.may_lose ≡ true) × (after ≡ gave_up config a m)

-- the same for a call that has taken the reading: the entry of an Ask has it
abbrev pub went : Config → Actor → Mover → Option ℕ → Turn Told → Mover
went config a m reading Reading = m
went config a m reading (Ask to asked) = record m { reading = or_else m.reading reading }
went config a m reading (Tell t) = mover_after config a m None (event.Tell m.commands t)

abbrev pub Went : {E : Type 0} → Config → Actor → Mover → Option ℕ → Mover → Result Made E → Type 0
Went config a m reading after (Ok t) = (turn_of t ≡ turn m.rest) × (after ≡ went config a m reading (turn_of t))
Went config a m reading after (Err e) = (m.may_lose ≡ true) × (after ≡ gave_up config a m)

-- no command is in flight
abbrev pub is_idle : SessionCore → Bool
is_idle c = is_none c.in_flight

-- one is, and it wants a reading, waits for a reply, or is a read
abbrev pub of_work : (CommandInFlight → Bool) → Option CommandInFlight → Bool
of_work test None = false
of_work test (Some u) = test u

abbrev pub wants_reading : SessionCore → Bool
wants_reading c = of_work (λ u. is_reading u.work) c.in_flight

abbrev pub awaits_reply : SessionCore → Bool
awaits_reply c = of_work (λ u. waits u.work) c.in_flight

abbrev pub reads : SessionCore → Bool
reads c = of_work (λ u. is_read u.work) c.in_flight

-- what may be called next, after this turn and after this answer
abbrev pub Stands : SessionCore → Made → Type 0
Stands c made.Reading = wants_reading c ≡ true
Stands c (made.Ask to asked) = (awaits_reply c ≡ true) × (lists asked ≡ true → reads c ≡ true)
Stands c (made.Tell t) = is_idle c ≡ true

abbrev pub StandsAfter : {E : Type 0} → SessionCore → Result Made E → Type 0
StandsAfter c (Ok t) = Stands c t
StandsAfter c (Err e) = is_idle c ≡ true
