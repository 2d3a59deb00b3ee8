-- What a script of this form leads to, command by command: the entries that are recorded, and how far things have come.
use Rattle.std.specs.Prelude.{ℕ, ◌+◌, List, [], ◌∷◌, ◌++◌, Option, Some, None, max, min, map, Result, Ok, Err}
use Rattle.hybrid_time.specs.Time.{next_time, limit_time, time_at}
use Rattle.hybrid_time.specs.declared.time_refusal.TimeRefusal.{TimeRefusal}
use Rattle.hybrid_time.specs.declared.time_refusal.TimeRefusal.TheVariants as time_refusal
use Rattle.doc_path.specs.Path.{Parts}
use Rattle.txn_data.specs.declared.actor.Actor.{Actor}
use Rattle.txn_data.specs.declared.actor.Actor.TheVariants.{Tablet, Session, Applier}
use Rattle.txn_data.specs.declared.append.Append.TheVariants.{Nothing}
use Rattle.txn_data.specs.declared.op.Op.TheVariants.{Put}
use Rattle.txn_data.specs.declared.read_kind.ReadKind.TheVariants.{Get}
use Rattle.txn_data.specs.declared.row.Row.{Row}
use Rattle.txn_data.specs.declared.written.Written.{Written}
use Rattle.txn_data.specs.declared.version.Version.{Version}
use Rattle.txn_data.specs.declared.command.Command.{Command}
use Rattle.txn_data.specs.declared.command.Command.TheVariants as command
use Rattle.txn_data.specs.declared.request.Request.{Request}
use Rattle.txn_data.specs.declared.request.Request.TheVariants as request
use Rattle.txn_data.specs.declared.reply.Reply.{Reply}
use Rattle.txn_data.specs.declared.reply.Reply.TheVariants as reply
use Rattle.txn_data.specs.declared.refusal.Refusal.TheVariants as refusal
use Rattle.txn_data.specs.declared.told.Told.{Told}
use Rattle.txn_data.specs.declared.told.Told.TheVariants as told
use Rattle.txn_data.specs.declared.told_refusal.ToldRefusal.TheVariants as why
use Rattle.txn_data.specs.declared.event.Event.{Event}
use Rattle.txn_data.specs.declared.event.Event.TheVariants.{Start, Ask, Serve, Hear, Tell}
use Rattle.txn_data.specs.declared.entry.Entry.{Entry}
use Rattle.txn_types.specs.Writes.{value}
use Rattle.txn_types.specs.Session.{txn_id}

-- how far the tablet and the session have come: the reading of their node, the tablet's last time and its versions, the
-- session's time, the serial number that it used last, and how many commands it began
pub record Course : Type 0 where
  pub clock : ℕ
  pub tablet : ℕ
  pub versions : List Version
  pub session : ℕ
  pub serial : ℕ
  pub commands : ℕ

abbrev pub at_first : Course
at_first = record { clock = 1000000; tablet = 0; versions = []; session = 0; serial = 0; commands = 0 }

abbrev pub by : Actor → Option ℕ → Event → Entry
by a reading event = record { actor = a; reading = reading; event = event }

abbrev pub one : Actor
one = Session 1

abbrev pub t0 : Actor
t0 = Tablet 0

-- a request of a mover, its service, and the reply, with the reading of the mover and that of the tablet
abbrev pub exchange : Actor → Option ℕ → Option ℕ → Request → Reply → Option ℕ → List Entry
exchange m own served asked r time =
    by m own (Ask t0 asked) ∷ by t0 served (Serve m asked r time Nothing) ∷ by m None (Hear t0 r) ∷ []

-- a single write
abbrev pub single_reply : Result ℕ TimeRefusal → Reply
single_reply (Ok c) = reply.SingleDone c
single_reply (Err (time_refusal.ClockFull at)) = reply.Refused (refusal.ClockFull at)
single_reply (Err (time_refusal.ClockRange reading)) = reply.Refused (refusal.ClockRange reading)

abbrev pub single_told : ℕ → Result ℕ TimeRefusal → Told
single_told x (Ok c) = told.Committed x c
single_told x (Err (time_refusal.ClockFull at)) = told.Refused (why.ClockFull t0 at)
single_told x (Err (time_refusal.ClockRange reading)) = told.Refused (why.ClockRange t0 reading)

abbrev pub time_given : Result ℕ TimeRefusal → Option ℕ
time_given (Ok c) = Some c
time_given (Err e) = None

abbrev pub version_of : Parts → List ℕ → ℕ → Version
version_of path v c = record { path = path; at = c; wrote = c; number = 0; op = Put v }

abbrev pub after_single : Course → Parts → List ℕ → Result ℕ TimeRefusal → Course
after_single k path v (Ok c) = record {
  clock = k.clock;
  tablet = c;
  versions = k.versions ++ version_of path v c ∷ [];
  session = max k.session c;
  serial = k.serial + 1;
  commands = k.commands + 1;
}
after_single k path v (Err e) = record k { serial = k.serial + 1; commands = k.commands + 1 }

abbrev pub single_time : Course → Result ℕ TimeRefusal
single_time k = next_time k.tablet k.session k.clock

abbrev pub single_id : Course → ℕ
single_id k = txn_id 1 (k.serial + 1)

abbrev pub single_entries : Course → Command → Parts → List ℕ → Result ℕ TimeRefusal → List Entry
single_entries k line path v time =
    by one None (Start (k.commands + 1) line)
    ∷ (exchange one None None (request.ListWrite (single_id k) path) (reply.Others []) None
    ++ (exchange one None (Some k.clock) (request.Single (single_id k) path (Put v) k.session []) (single_reply time) (time_given time)
    ++ by one None (Tell (k.commands + 1) (single_told (single_id k) time)) ∷ []))

-- a read: its time, the time that the tablet takes, and the row that it answers
abbrev pub read_time : Course → ℕ
read_time k = max (max k.session 0) (time_at k.clock 0)

abbrev pub read_window : Course → ℕ
read_window k = max (read_time k) (limit_time k.clock 500000)

abbrev pub tablet_time : Course → ℕ
tablet_time k = max (max k.tablet (read_time k)) (time_at k.clock 0)

abbrev pub writes_of : List Version → List Written
writes_of vs = map (λ (v : Version). record { path = v.path; op = v.op }) vs

abbrev pub row_at : Course → Parts → List Row
row_at k path = (record { path = path; value = value (writes_of k.versions) path }) ∷ []

abbrev pub read_entries : Course → Command → Parts → List Entry
read_entries k line path =
    let limit = min (tablet_time k) (read_window k) in
    by one None (Start (k.commands + 1) line)
    ∷ (exchange one (Some k.clock) (Some k.clock) (request.ListRead None (path ∷ []) (read_time k) (read_window k) None)
    (reply.Listed limit []) (Some (tablet_time k))
    ++ (exchange one None None
    (request.Collect None Get (path ∷ []) (read_time k) (Some (record { g = read_window k; limit = limit })) [])
    (reply.Collected (row_at k path)) None
    ++ by one None (Tell (k.commands + 1) (told.Values (read_time k) 0 (row_at k path))) ∷ []))

abbrev pub after_read : Course → Course
after_read k = record k { tablet = tablet_time k; session = read_time k; commands = k.commands + 1 }

-- a clock line
abbrev pub clock_entries : Course → Command → List Entry
clock_entries k line = by one None (Start (k.commands + 1) line) ∷ by one None (Tell (k.commands + 1) told.Set) ∷ []

abbrev pub after_clock : Course → ℕ → Course
after_clock k micros = record k { clock = micros; commands = k.commands + 1 }

-- the entries of a command, what it is told, and how far things are then; this form has these three alone
abbrev pub entries_of : Course → Command → List Entry
entries_of k (command.SinglePut place v priority) =
    single_entries k (command.SinglePut place v priority) place.path v (single_time k)
entries_of k (command.Read strict (place ∷ more)) = read_entries k (command.Read strict (place ∷ more)) place.path
entries_of k (command.Clock node micros) = clock_entries k (command.Clock node micros)
entries_of k line = []

abbrev pub told_of : Course → Command → Told
told_of k (command.SinglePut place v priority) = single_told (single_id k) (single_time k)
told_of k (command.Read strict (place ∷ more)) = told.Values (read_time k) 0 (row_at k place.path)
told_of k line = told.Set

abbrev pub course_after : Course → Command → Course
course_after k (command.SinglePut place v priority) = after_single k place.path v (single_time k)
course_after k (command.Read strict (place ∷ more)) = after_read k
course_after k (command.Clock node micros) = after_clock k micros
course_after k line = k

-- the entries of all commands, oldest first, and then those of the last pass
unfoldable pub entries_from : Course → List Command → List Entry
entries_from k [] = []
entries_from k (c ∷ cs) = entries_of k c ++ entries_from (course_after k c) cs

abbrev pub applier : Actor
applier = Applier 0

abbrev pub pass_entries : List Entry
pass_entries =
    by applier None (Start 1 (command.Apply 0))
    ∷ (exchange applier None None request.ListIntents (reply.Intents []) None
    ++ by applier None (Tell 1 (told.Passed 0 0 0)) ∷ [])

abbrev pub all_entries : List Command → List Entry
all_entries cs = entries_from at_first cs ++ pass_entries

-- what is told, in order
unfoldable pub told_from : Course → List Command → List Told
told_from k [] = []
told_from k (c ∷ cs) = told_of k c ∷ told_from (course_after k c) cs
