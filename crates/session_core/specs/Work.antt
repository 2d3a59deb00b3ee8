-- What is left of a command, by what a session does for it.
use Rattle.std.specs.Prelude.{◌≡◌, ◌<◌, ℕ, Bool, true, false, List, [], ◌∷◌, Option, Some, None, Vec}
use Rattle.std.specs.Vec.{vec_len, vec_capacity}
use Rattle.std.specs.declared.alloc.Global.{Global}
use Rattle.txn_data.specs.declared.command.Command.{Command}
use Rattle.txn_data.specs.declared.command.Command.TheVariants as command
use Rattle.txn_data.specs.declared.config.Config.{Config}
use Rattle.txn_data.specs.declared.place.Place.{Place}
use Rattle.txn_data.specs.declared.read_end.ReadEnd.{ReadEnd}
use Rattle.txn_data.specs.declared.read_what.ReadWhat.TheVariants as what
use Rattle.txn_data.specs.declared.row.Row.{Row}
use Rattle.txn_data.specs.declared.read_kind.ReadKind.TheVariants.{Get, Scan}
use Rattle.txn_data.specs.declared.tablet_limit.TabletLimit.{TabletLimit}
use Rattle.txn_data.specs.declared.told.Told.{Told}
use Rattle.txn_data.specs.declared.told.Told.TheVariants as told
use Rattle.txn_data.specs.declared.told_refusal.ToldRefusal.TheVariants as told_refusal
use Rattle.txn_data.specs.declared.written.Written.{Written}
use Rattle.txn_types.specs.Program.{Program, Done, Asks, then_do, turn}
use Rattle.txn_types.specs.TxnProgram.{lost}
use Rattle.txn_types.specs.Session.{Keeps, Opened, writes_of, rows_under, begin_program, read_alone, restart_program}
use Rattle.txn_plan.specs.Rest.{rest as txn_rest}
use Rattle.txn_plan.specs.Stage.{takes_room as txn_takes_room}
use Rattle.read_plan.specs.Rest.{rest as read_rest}
use Rattle.read_plan.specs.Stage.{takes_room as read_takes_room}
use Rattle.read_plan.specs.declared.read_plan.ReadPlan.{ReadPlan}
use Rattle.intent_applier.specs.Rest.{rest as pass_rest}
use Rattle.intent_applier.specs.Stage.{asks as pass_asks}
use Rattle.session_core.specs.declared.work.Work.{Work}
use Rattle.session_core.specs.declared.work.Work.TheVariants as work

abbrev pub own_writes : Option Opened → List Written
own_writes None = []
own_writes (Some x) = writes_of x.writes

-- the place of a scan
abbrev pub scanned : Command → Option Place
scanned (command.Scan strict place) = Some place
scanned _ = None

-- the rows that a read found, or a scan of this place, beneath these writes
abbrev pub shown_at : List Written → Option Place → List Row → List Row
shown_at ws None rows = rows_under Get ws [] rows
shown_at ws (Some place) rows = rows_under Scan ws (place ∷ []) rows

-- the rows that a read found, beneath the own writes of its transaction
abbrev pub shown : Option Opened → Command → List Row → List Row
shown x line rows = shown_at (own_writes x) (scanned line) rows

-- what a read is told
abbrev pub ended : Option Opened → Command → ReadEnd → Told
ended x line end = elim end.what [
  | what.Values rows ↦ told.Values end.t end.restarts (shown x line rows)
  | what.Restart at path ↦ told.Refused (told_refusal.Restart at path)
  | what.Refused why ↦ told.Refused why
]

-- what a command does that takes a reading first
abbrev pub timed : Config → ℕ → Keeps → Command → Program Told
timed config i s (command.Begin priority) = begin_program config i s priority
timed config i s (command.Read strict places) = read_alone config i s Get strict places
timed config i s (command.Scan strict place) = read_alone config i s Scan strict (place ∷ [])
timed config i s line = lost

-- the program that is left of the command
abbrev pub work_rest : Config → ℕ → Keeps → Command → Work → Program Told
work_rest config i s line work.Reading = timed config i s line
work_rest config i s line (work.Over t) = Done t
work_rest config i s line (work.Txn p) = txn_rest p
work_rest config i s line (work.Read p limits) = then_do (read_rest p) (λ end. Done (ended s.opened line end))
work_rest config i s line (work.Apply p) = pass_rest p
work_rest config i s line (work.Restart a) = restart_program a

abbrev pub is_asks : {T : Type 0} → Program T → Bool
is_asks (Asks to asked next) = true
is_asks _ = false

-- a reply is awaited
abbrev pub waits : Work → Bool
waits (work.Txn p) = is_asks (txn_rest p)
waits (work.Read p limits) = is_asks (read_rest p)
waits (work.Apply p) = is_asks (pass_rest p)
waits (work.Restart a) = true
waits _ = false

-- room is wanted, for what comes next or for the reply to it
abbrev pub takes_room : Work → Bool
takes_room work.Reading = true
takes_room (work.Txn p) = txn_takes_room (turn (txn_rest p))
takes_room (work.Read p limits) = read_takes_room (turn (read_rest p))
takes_room (work.Apply p) = pass_asks (turn (pass_rest p))
takes_room _ = false

-- the command wants a reading
abbrev pub is_reading : Work → Bool
is_reading work.Reading = true
is_reading _ = false

abbrev pub is_read : Work → Bool
is_read (work.Read p limits) = true
is_read _ = false

-- the limits of the open transaction as they stand now: a read has its own
abbrev pub limits_now : List TabletLimit → Work → List TabletLimit
limits_now before (work.Read p limits) = limits.items
limits_now before _ = before

-- one more limit fits without memory
abbrev pub HasLimitRoom : Work → Type 0
HasLimitRoom w = (p : ReadPlan) (limits : Vec TabletLimit Global) → w ≡ work.Read p limits → vec_len limits < vec_capacity limits
