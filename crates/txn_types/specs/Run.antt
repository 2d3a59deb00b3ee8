-- A run: each entry is allowed by its actor's table over the entries before it.
use Rattle.std.specs.Prelude.{◌≡◌, ℕ, ◌+◌, ◌<◌, ◌^◌, Bool, true, false, ◌&&◌, not, List, [], ◌∷◌, Option, Some, None, if◌then◌else◌, ◌⊎◌}
use Rattle.txn_data.specs.Time.{takes_time}
use Rattle.txn_data.specs.declared.actor.Actor.{Actor}
use Rattle.txn_data.specs.declared.actor.Actor.TheVariants.{Tablet, Status, Session, Applier}
use Rattle.txn_data.specs.declared.append.Append.{Append}
use Rattle.txn_data.specs.declared.tablet_limit.TabletLimit.{TabletLimit}
use Rattle.txn_data.specs.declared.request.Request.{Request}
use Rattle.txn_data.specs.declared.request.Request.TheVariants as request
use Rattle.txn_data.specs.declared.reply.Reply.{Reply}
use Rattle.txn_data.specs.declared.reply.Reply.TheVariants as reply
use Rattle.txn_data.specs.declared.refusal.Refusal.TheVariants as refusal
use Rattle.txn_data.specs.declared.told.Told.{Told}
use Rattle.txn_data.specs.declared.told.Told.TheVariants as told
use Rattle.txn_data.specs.declared.told_refusal.ToldRefusal.TheVariants as told_refusal
use Rattle.txn_data.specs.declared.command.Command.{Command}
use Rattle.txn_data.specs.declared.command.Command.TheVariants as command
use Rattle.txn_data.specs.declared.config.Config.{Config}
use Rattle.txn_data.specs.declared.event.Event.{Event}
use Rattle.txn_data.specs.declared.event.Event.TheVariants.{Start, Ask, Serve, Hear, Tell, Restarted}
use Rattle.txn_types.specs.Lists.{or_zero, or_else}
use Rattle.txn_types.specs.History.{History, same_actor, own}
use Rattle.txn_types.specs.Clock.{Answer, has_failed}
use Rattle.txn_types.specs.Tablet.{tablet_answer}
use Rattle.txn_types.specs.Status.{status_answer}
use Rattle.txn_types.specs.Program as program
use Rattle.txn_types.specs.Program.{Program, Done, Asks, Reads, Turn, heard, turn_with, with_reading}
use Rattle.txn_types.specs.ReadProgram.{with_limit}
use Rattle.txn_types.specs.TxnProgram.{lost}
use Rattle.txn_types.specs.PassProgram.{pass_program}
use Rattle.txn_types.specs.Session.{Keeps, Opened, IsOpen, at_first, command_program, keeps_after}
use Rattle.txn_types.specs.Plan.{IsCluster, IsLine, IsSession}

-- how far a mover has come: what it keeps between commands, how many it began, the line of the one under way, what is
-- left of it, the reading that stands in its first Ask, the limits of the open transaction, and whether it may still be
-- told out of memory
pub record Mover : Type 0 where
  pub keeps : Keeps
  pub commands : ℕ
  pub line : Option Command
  pub rest : Program Told
  pub reading : Option ℕ
  pub limits : List TabletLimit
  pub may_lose : Bool

abbrev pub idle : Mover
idle = record { keeps = at_first; commands = 0; line = None; rest = lost; reading = None; limits = []; may_lose = true }

-- what a mover does for a line: an applier makes passes alone
abbrev pub program_of : Config → Actor → Keeps → Command → Program Told
program_of config (Session i) s line = command_program config i s line
program_of config a s (command.Apply tablet) = pass_program tablet
program_of config a s line = lost

abbrev pub limits_of : Option Opened → List TabletLimit
limits_of None = []
limits_of (Some x) = x.limits

-- after a refusal, or a reply to Begin, Write, Single, Commit or Abort, a session no longer gives its command up because
-- it runs out of memory itself
abbrev pub is_settling : Reply → Bool
is_settling (reply.Refused why) = true
is_settling reply.Begun = true
is_settling (reply.Written at) = true
is_settling (reply.SingleDone at) = true
is_settling (reply.Committed at) = true
is_settling (reply.AbortedBy by) = true
is_settling reply.Gone = true
is_settling reply.Ended = true
is_settling r = false

abbrev pub may_lose_after : Actor → Reply → Bool
may_lose_after (Session i) r = not (is_settling r)
may_lose_after a r = true

-- the limit of a tablet is fixed by the first Listed that is heard from it
abbrev pub limits_after : List TabletLimit → Actor → Reply → List TabletLimit
limits_after ls (Tablet k) (reply.Listed limit others) = with_limit k limit ls
limits_after ls a r = ls

abbrev pub session_of : Actor → ℕ
session_of (Session i) = i
session_of a = 0

abbrev pub kept_after : Config → Actor → Mover → Option Command → Told → Keeps
kept_after config a m None t = m.keeps
kept_after config a m (Some line) t = keeps_after config (session_of a) m.keeps line m.reading m.limits t

-- one more entry of the mover's own
abbrev pub mover_after : Config → Actor → Mover → Option ℕ → Event → Mover
mover_after config a m reading (Start number line) = record {
  keeps = m.keeps;
  commands = m.commands + 1;
  line = Some line;
  rest = program_of config a m.keeps line;
  reading = None;
  limits = limits_of m.keeps.opened;
  may_lose = true;
}
mover_after config a m reading (Ask to asked) =
    record m { rest = with_reading m.rest reading; reading = or_else m.reading reading }
mover_after config a m reading (Hear from r) =
    record m { rest = heard m.rest r; limits = limits_after m.limits from r; may_lose = m.may_lose && may_lose_after a r }
mover_after config a m reading (Tell number t) = record {
  keeps = kept_after config a m m.line t;
  commands = m.commands;
  line = None;
  rest = lost;
  reading = None;
  limits = [];
  may_lose = true;
}
mover_after config a m reading event = m

unfoldable pub mover_at : Config → Actor → History → Mover
mover_at config a [] = idle
mover_at config a (e ∷ h) =
    if same_actor e.actor a then mover_after config a (mover_at config a h) e.reading e.event else mover_at config a h

-- the message of a mover that is on its way
pub data Flight : Type 0 where
  Quiet : Flight
  Asked : (to : Actor) (request : Request) → Flight
  Answered : (from : Actor) (reply : Reply) → Flight

-- one more entry of an actor: an Ask leaves, a Serve or a Restarted answers it, a Hear ends it, also one that says out of memory
abbrev pub flight_after : Actor → Flight → Actor → Event → Flight
flight_after m f a (Start number line) = f
flight_after m f a (Ask to asked) = if same_actor a m then Asked to asked else f
flight_after m f a (Serve from asked r time append) = if same_actor from m then Answered a r else f
flight_after m f a (Hear from r) = if same_actor a m then Quiet else f
flight_after m f a (Tell number t) = f
flight_after m f a (Restarted from kept) = if same_actor from m then Answered a (reply.Restarted kept) else f

unfoldable pub flight : Actor → History → Flight
flight m [] = Quiet
flight m (e ∷ h) = flight_after m (flight m h) e.actor e.event

-- a reply that is there, or out of memory in the place of one that is not
abbrev pub CanHear : Flight → Actor → Reply → Type 0
CanHear Quiet from r = ⊥
CanHear (Asked to asked) from r = (to ≡ from) × (r ≡ reply.Refused refusal.Memory)
CanHear (Answered by answer) from r = (by ≡ from) × (r ≡ answer)

-- what the table of a machine answers
abbrev pub machine_answer : ℕ → Actor → History → Bool → ℕ → Request → Answer
machine_answer lease (Tablet k) h fails reading asked = tablet_answer lease h fails reading asked
machine_answer lease a h fails reading asked = status_answer lease h fails reading asked

-- a reading stands in the entry exactly where the request takes one
abbrev pub ReadingFits : Bool → Option ℕ → Type 0
ReadingFits true None = ⊥
ReadingFits true (Some reading) = Unit {0}
ReadingFits false reading = reading ≡ None

-- this reply, time and append are what the table answers, where the log takes what is to be logged or fails; `h` are
-- the actor's own entries
pub record Serves (lease : ℕ) (a : Actor) (h : History) (reading : Option ℕ) (asked : Request) (r : Reply) (time : Option ℕ) (append : Append) : Type 0 where
  pub fails : Bool
  pub fits : ReadingFits (takes_time asked) reading
  pub replied : r ≡ (machine_answer lease a h fails (or_zero reading) asked).reply
  pub took : time ≡ (machine_answer lease a h fails (or_zero reading) asked).time
  pub logged : append ≡ (machine_answer lease a h fails (or_zero reading) asked).append

-- a restart keeps a failed piece only where there is one
abbrev pub CanKeep : Bool → History → Type 0
CanKeep false h = Unit {0}
CanKeep true h = has_failed h ≡ true

abbrev pub IsMachine : Config → Actor → Type 0
IsMachine config (Tablet k) = k < config.tablets
IsMachine config (Status j) = j < config.status
IsMachine config a = ⊥

-- a session ends by End only where it has a transaction open
abbrev pub StartsLine : Config → Option Opened → Command → Type 0
StartsLine config opened command.End = IsOpen opened
StartsLine config opened line = IsLine config line

-- a session starts at most 2^40 commands; an applier makes passes over its tablet
abbrev pub MayStart : Config → Actor → Mover → Command → Type 0
MayStart config (Session i) m line = IsSession i × (m.commands < 2 ^ 40) × StartsLine config m.keeps.opened line
MayStart config (Applier k) m line = (k < config.tablets) × (line ≡ command.Apply k)
MayStart config a m line = ⊥

-- what a command is told: what it came to, or out of memory where that may still be told
abbrev pub CanTell : Mover → Option ℕ → Told → Type 0
CanTell m reading t =
    (turn_with m.rest reading ≡ program.Tell t)
    ⊎ ((t ≡ told.Refused told_refusal.Memory) × (m.may_lose ≡ true) × (reading ≡ None))

abbrev pub IsUnderWay : Option Command → Type 0
IsUnderWay None = ⊥
IsUnderWay (Some line) = Unit {0}

-- what an actor may do next, over the history before
abbrev pub Allowed : Config → History → Actor → Option ℕ → Event → Type 0
Allowed config h a reading (Start number line) =
    let m = mover_at config a h in
    (m.line ≡ None) × (number ≡ m.commands + 1) × (reading ≡ None) × MayStart config a m line
Allowed config h a reading (Ask to asked) =
    let m = mover_at config a h in
    IsUnderWay m.line × (flight a h ≡ Quiet) × (turn_with m.rest reading ≡ program.Ask to asked)
Allowed config h a reading (Serve from asked r time append) =
    IsMachine config a × (flight from h ≡ Asked a asked) × Serves config.lease_us a (own a h) reading asked r time append
Allowed config h a reading (Hear from r) = (reading ≡ None) × CanHear (flight a h) from r
Allowed config h a reading (Tell number t) =
    let m = mover_at config a h in
    IsUnderWay m.line × (flight a h ≡ Quiet) × (number ≡ m.commands) × CanTell m reading t
Allowed config h a reading (Restarted from kept) =
    IsMachine config a × (flight from h ≡ Asked a request.Restart) × (reading ≡ None) × CanKeep kept (own a h)

unfoldable pub Steps : Config → History → Type 0
Steps config [] = Unit {0}
Steps config (e ∷ h) = Steps config h × Allowed config h e.actor e.reading e.event

-- a run of a cluster
abbrev pub Run : Config → History → Type 0
Run config h = IsCluster config × Steps config h
