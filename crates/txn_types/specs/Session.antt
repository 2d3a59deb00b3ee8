-- What a session keeps between two commands, and what each command asks.
use Rattle.std.specs.Prelude.{ℕ, ◌+◌, ◌*◌, ◌%◌, ◌^◌, Bool, true, false, ◌||◌, not, List, [], ◌∷◌, ◌++◌, Option, Some, None, max, if◌then◌else◌, length, map, filter, flat_map, Result, Ok, Err, is_some}
use Rattle.hybrid_time.specs.Time.{time_at, limit_time, least_time}
use Rattle.hybrid_time.specs.declared.time_refusal.TimeRefusal.{TimeRefusal}
use Rattle.doc_path.specs.Path.{path_order}
use Rattle.std.specs.declared.cmp.Ordering.TheVariants.{Less, Equal, Greater}
use Rattle.txn_data.specs.declared.actor.Actor.{Actor}
use Rattle.txn_data.specs.declared.actor.Actor.TheVariants.{Session}
use Rattle.txn_data.specs.declared.isolation.Isolation.TheVariants.{Snapshot}
use Rattle.txn_data.specs.declared.meta.Meta.{Meta}
use Rattle.txn_data.specs.declared.place.Place.{Place}
use Rattle.txn_data.specs.declared.op.Op.{Op}
use Rattle.txn_data.specs.declared.op.Op.TheVariants as op
use Rattle.txn_data.specs.declared.written.Written.{Written}
use Rattle.txn_data.specs.declared.row.Row.{Row}
use Rattle.txn_data.specs.declared.read_kind.ReadKind.{ReadKind}
use Rattle.txn_data.specs.declared.read_kind.ReadKind.TheVariants.{Get, Scan}
use Rattle.txn_data.specs.declared.tablet_limit.TabletLimit.{TabletLimit}
use Rattle.txn_data.specs.declared.request.Request.TheVariants as request
use Rattle.txn_data.specs.declared.reply.Reply.TheVariants as reply
use Rattle.txn_data.specs.declared.told.Told.{Told}
use Rattle.txn_data.specs.declared.told.Told.TheVariants as told
use Rattle.txn_data.specs.declared.told_refusal.ToldRefusal.TheVariants as told_refusal
use Rattle.txn_data.specs.declared.command.Command.{Command}
use Rattle.txn_data.specs.declared.command.Command.TheVariants as command
use Rattle.txn_data.specs.declared.txn_step.TxnStep.TheVariants as step
use Rattle.txn_data.specs.declared.read_what.ReadWhat.TheVariants as what
use Rattle.txn_data.specs.declared.read_end.ReadEnd.{ReadEnd}
use Rattle.txn_data.specs.declared.config.Config.{Config}
use Rattle.txn_types.specs.Lists.{has_number}
use Rattle.txn_types.specs.Writes.{last_word, value, beneath}
use Rattle.txn_types.specs.Program.{Program, Done, Asks, Reads, then_do, refusal_told}
use Rattle.txn_types.specs.ReadProgram.{read_program}
use Rattle.txn_types.specs.TxnProgram.{txn_program, refused, lost}
use Rattle.txn_types.specs.PassProgram.{pass_program}

-- an accepted write of the open transaction, and its tablet
pub record Accepted : Type 0 where
  pub tablet : ℕ
  pub write : Written

-- an open transaction: its read time r, the end g of its window, its accepted writes in their order, the local limits
-- that its reads fixed, whether a read of it finished, and whether a commit or an abort of it was told a fault of the log
pub record Opened : Type 0 where
  pub meta : Meta
  pub r : ℕ
  pub g : ℕ
  pub writes : List Accepted
  pub limits : List TabletLimit
  pub has_read : Bool
  pub in_doubt : Bool

-- a transaction is open
abbrev pub IsOpen : Option Opened → Type 0
IsOpen None = ⊥
IsOpen (Some x) = Unit {0}

-- what a session keeps: its time, the serial number that it used last, and its open transaction
pub record Keeps : Type 0 where
  pub last : ℕ
  pub serial : ℕ
  pub opened : Option Opened

abbrev pub at_first : Keeps
at_first = record { last = 0; serial = 0; opened = None }

abbrev pub txn_id : ℕ → ℕ → ℕ
txn_id session serial = session * 2 ^ 64 + serial

-- what provisional records say of the transaction that this session begins next
abbrev pub next_meta : Config → ℕ → Keeps → ℕ → Meta
next_meta config i s priority =
    record { txn = txn_id i (s.serial + 1); status = i % config.status; isolation = Snapshot; priority = priority }

abbrev pub clock_range : ℕ → ℕ → Program Told
clock_range i reading = refused (told_refusal.ClockRange (Session i) reading)

-- goes on with the session's new time, or tells that the reading is out of range
abbrev pub timed_then : ℕ → ℕ → (ℕ → Program Told) → Result ℕ TimeRefusal → Program Told
timed_then i reading next (Ok now) = next now
timed_then i reading next (Err why) = clock_range i reading

-- the session takes a reading of its clock, which moves its time
abbrev pub moved_then : ℕ → ℕ → (ℕ → ℕ → Program Told) → Program Told
moved_then i last next = Reads (λ reading. timed_then i reading (next reading) (least_time last 0 reading))

abbrev pub begin_program : Config → ℕ → Keeps → ℕ → Program Told
begin_program config i s priority =
    moved_then i s.last (λ reading now. txn_program (step.Begin (next_meta config i s priority) now))

abbrev pub writes_of : List Accepted → List Written
writes_of ws = map (λ (a : Accepted). a.write) ws

-- the tablets that accepted writes, in the order in which they first accepted one
unfoldable pub tablets_used : List ℕ → List Accepted → List ℕ
tablets_used before [] = []
tablets_used before (a ∷ more) =
    if has_number a.tablet before then tablets_used before more else a.tablet ∷ tablets_used (a.tablet ∷ before) more

-- the transaction's own writes over a row, and over the rows of a scan
abbrev pub row_under : List Written → Row → Row
row_under ws row = elim (last_word ws row.path) [ Some w ↦ record { path = row.path; value = value ws row.path } | None ↦ row ]

unfoldable pub with_row : Row → List Row → List Row
with_row r [] = r ∷ []
with_row r (q ∷ qs) = elim (path_order r.path q.path) [ Less ↦ r ∷ q ∷ qs | Equal ↦ r ∷ qs | Greater ↦ q ∷ with_row r qs ]

unfoldable pub with_rows : List Row → List Row → List Row
with_rows [] rows = rows
with_rows (r ∷ rs) rows = with_row r (with_rows rs rows)

abbrev pub is_untouched : List Written → Row → Bool
is_untouched ws row = not (is_some (last_word ws row.path))

-- the own writes of a transaction over what it read: a path that one of them has the last word on goes by them
abbrev pub rows_under : ReadKind → List Written → List Place → List Row → List Row
rows_under Get ws places rows = map (row_under ws) rows
rows_under Scan ws places rows =
    with_rows (flat_map (λ (p : Place). beneath ws p.path) places) (filter (is_untouched ws) rows)

abbrev pub read_told : ReadKind → List Written → List Place → ReadEnd → Told
read_told kind ws places end = elim end.what [
  | what.Values rows ↦ told.Values end.t end.restarts (rows_under kind ws places rows)
  | what.Restart at path ↦ told.Refused (told_refusal.Restart at path)
  | what.Refused why ↦ told.Refused why
]

-- a read outside a transaction is at the session's new time
abbrev pub read_at : Config → ReadKind → Bool → List Place → ℕ → ℕ → Program Told
read_at config kind strict places reading now =
    then_do (read_program None kind places now (max now (limit_time reading config.skew_us)) strict [])
    (λ end. Done (read_told kind [] places end))

abbrev pub read_alone : Config → ℕ → Keeps → ReadKind → Bool → List Place → Program Told
read_alone config i s kind strict places = moved_then i s.last (read_at config kind strict places)

abbrev pub has_writes : List Accepted → Bool
has_writes [] = false
has_writes (a ∷ more) = true

-- a read inside a transaction is at its read time, and must not restart once it wrote or read
abbrev pub read_inside : Opened → ReadKind → Bool → List Place → Program Told
read_inside x kind strict places =
    then_do (read_program (Some x.meta.txn) kind places x.r x.g (strict || has_writes x.writes || x.has_read) x.limits)
    (λ end. Done (read_told kind (writes_of x.writes) places end))

abbrev pub read_command : Config → ℕ → Keeps → ReadKind → Bool → List Place → Option Opened → Program Told
read_command config i s kind strict places None = read_alone config i s kind strict places
read_command config i s kind strict places (Some x) =
    if x.in_doubt then refused told_refusal.InDoubt else read_inside x kind strict places

-- a write inside a transaction
abbrev pub write_command : Keeps → Place → Op → Option Opened → Program Told
write_command s place what_to_do None = refused told_refusal.NoTxn
write_command s place what_to_do (Some x) =
    if x.in_doubt then refused told_refusal.InDoubt
    else txn_program (step.Write x.meta (length x.writes) place what_to_do x.r s.last)

abbrev pub commit_command : Keeps → Option Opened → Program Told
commit_command s None = refused told_refusal.NoTxn
commit_command s (Some x) = txn_program (step.Commit x.meta s.last (tablets_used [] x.writes))

abbrev pub abort_command : Option Opened → Program Told
abort_command None = refused told_refusal.NoTxn
abort_command (Some x) = txn_program (step.Abort x.meta)

-- a command that needs that no transaction is open
abbrev pub if_closed : Option Opened → Program Told → Program Told
if_closed (Some x) next = refused told_refusal.TxnOpen
if_closed None next = next

abbrev pub restart_program : Actor → Program Told
restart_program a = Asks a request.Restart (λ r. elim r [
  | reply.Restarted kept ↦ Done (told.Restarted kept)
  | reply.Refused why ↦ refused (refusal_told a why)
  | _ ↦ lost
])

-- what session i does for a command
abbrev pub command_program : Config → ℕ → Keeps → Command → Program Told
command_program config i s (command.Begin priority) = if_closed s.opened (begin_program config i s priority)
command_program config i s (command.Put place v) = write_command s place (op.Put v) s.opened
command_program config i s (command.Del place) = write_command s place op.Delete s.opened
command_program config i s command.Commit = commit_command s s.opened
command_program config i s command.Abort = abort_command s.opened
command_program config i s command.End = abort_command s.opened
command_program config i s (command.Read strict places) = read_command config i s Get strict places s.opened
command_program config i s (command.Scan strict place) = read_command config i s Scan strict (place ∷ []) s.opened
command_program config i s (command.SinglePut place v priority) =
    if_closed s.opened (txn_program (step.Single (next_meta config i s priority) place (op.Put v) s.last))
command_program config i s (command.SingleDel place priority) =
    if_closed s.opened (txn_program (step.Single (next_meta config i s priority) place op.Delete s.last))
command_program config i s (command.Restart actor) = restart_program actor
command_program config i s (command.Apply tablet) = pass_program tablet
command_program config i s (command.Clock node micros) = Done told.Set

-- what is left of a session once a command is told.

-- a begin or a single that was not told TxnOpen used a serial number
abbrev pub uses_serial : Command → Bool
uses_serial (command.Begin priority) = true
uses_serial (command.SinglePut place v priority) = true
uses_serial (command.SingleDel place priority) = true
uses_serial line = false

abbrev pub serial_after : Keeps → Command → Told → ℕ
serial_after s line (told.Refused told_refusal.TxnOpen) = s.serial
serial_after s line t = if uses_serial line then s.serial + 1 else s.serial

-- the times that a session takes in: that of an accepted write, of its own commit or single write, and of a finished read
abbrev pub time_taken : Told → ℕ
time_taken (told.Written at) = at
time_taken (told.Committed x at) = at
time_taken (told.Values at restarts rows) = at
time_taken t = 0

-- the reading that stands in an entry of the command moves the session's time
abbrev pub moved_by : ℕ → Option ℕ → ℕ
moved_by last None = last
moved_by last (Some reading) = max last (time_at reading 0)

abbrev pub window_end : ℕ → ℕ → ℕ → ℕ
window_end r reading skew = max r (limit_time reading skew)

-- the transaction that a begin opened
abbrev pub opens : Config → ℕ → Keeps → ℕ → Option ℕ → Told → Option Opened
opens config i s priority (Some reading) (told.Began x at) = Some (record {
  meta = next_meta config i s priority;
  r = at;
  g = window_end at reading config.skew_us;
  writes = [];
  limits = [];
  has_read = false;
  in_doubt = false;
})
opens config i s priority reading t = None

-- Conflict, Overlap and a fault of a log end the transaction of a put or a del; an accepted write joins it
abbrev pub after_write : Opened → Place → Op → Told → Option Opened
after_write x place what_to_do (told.Written at) =
    Some (record x { writes = x.writes ++ (record { tablet = place.tablet; write = record { path = place.path; op = what_to_do } }) ∷ [] })
after_write x place what_to_do (told.Refused (told_refusal.Conflict other)) = None
after_write x place what_to_do (told.Refused (told_refusal.Overlap at)) = None
after_write x place what_to_do (told.Refused (told_refusal.LogFault actor)) = None
after_write x place what_to_do t = Some x

-- a commit or an abort that is answered closes the transaction; a fault of the log leaves it in doubt
abbrev pub after_end : Opened → Told → Option Opened
after_end x (told.Committed y at) = None
after_end x (told.Ended y) = None
after_end x (told.Refused (told_refusal.Aborted by)) = None
after_end x (told.Refused (told_refusal.LogFault actor)) = Some (record x { in_doubt = true })
after_end x t = Some x

-- a finished read fixes the read time, where it is the first; the limits that were heard stay whatever is told
abbrev pub after_read : Opened → List TabletLimit → Told → Option Opened
after_read x limits (told.Values at restarts rows) =
    Some (record x { limits = limits; r = if x.has_read then x.r else at; has_read = true })
after_read x limits t = Some (record x { limits = limits })

abbrev pub opened_after : Config → ℕ → Keeps → Command → Option ℕ → List TabletLimit → Told → Option Opened → Option Opened
opened_after config i s (command.Begin priority) reading limits t None = opens config i s priority reading t
opened_after config i s line reading limits t None = None
opened_after config i s (command.Put place v) reading limits t (Some x) = after_write x place (op.Put v) t
opened_after config i s (command.Del place) reading limits t (Some x) = after_write x place op.Delete t
opened_after config i s command.Commit reading limits t (Some x) = after_end x t
opened_after config i s command.Abort reading limits t (Some x) = after_end x t
opened_after config i s command.End reading limits t (Some x) = after_end x t
opened_after config i s (command.Read strict places) reading limits t (Some x) = after_read x limits t
opened_after config i s (command.Scan strict place) reading limits t (Some x) = after_read x limits t
opened_after config i s line reading limits t (Some x) = Some x

-- what session i keeps after a command, with the reading that stands in its first Ask, the limits of its transaction as
-- they stand now, and what it was told
abbrev pub keeps_after : Config → ℕ → Keeps → Command → Option ℕ → List TabletLimit → Told → Keeps
keeps_after config i s line reading limits t = record {
  last = max (moved_by s.last reading) (time_taken t);
  serial = serial_after s line t;
  opened = opened_after config i s line reading limits t s.opened;
}
