-- What a session is told of its transaction's read time in every run, and at what time its writes read.
use Rattle.std.specs.Prelude.{◌≡◌, ℕ, ◌+◌, ◌^◌, ◌<◌, ◌≤◌, Option, Some, None}
use Rattle.txn_data.specs.declared.actor.Actor.{Actor}
use Rattle.txn_data.specs.declared.actor.Actor.TheVariants.{Session}
use Rattle.txn_data.specs.declared.command.Command.{Command}
use Rattle.txn_data.specs.declared.command.Command.TheVariants as command
use Rattle.txn_data.specs.declared.config.Config.{Config}
use Rattle.txn_data.specs.declared.request.Request.TheVariants as request
use Rattle.txn_data.specs.declared.told.Told.{Told}
use Rattle.txn_data.specs.declared.told.Told.TheVariants as told
use Rattle.txn_data.specs.declared.event.Event.{Event}
use Rattle.txn_data.specs.declared.event.Event.TheVariants.{Serve, Tell}
use Rattle.txn_data.specs.declared.entry.Entry.{Entry}
use Rattle.txn_types.specs.History.{History}
use Rattle.txn_types.specs.Session.{Opened, txn_id}
use Rattle.txn_types.specs.Run.{Run, mover_at, session_of}
use Rattle.law_machines.specs.Own.{StandsOver}

-- ## what a session is told

abbrev pub IsReadLine : Option Command → Type 0
IsReadLine (Some (command.Read strict places)) = Unit {0}
IsReadLine (Some (command.Scan strict place)) = Unit {0}
IsReadLine line = ⊥

abbrev pub IsBeginLine : Option Command → Type 0
IsBeginLine (Some (command.Begin priority)) = Unit {0}
IsBeginLine line = ⊥

-- not below the read time of the open transaction
abbrev pub IsUp : Option Opened → ℕ → Type 0
IsUp None at = Unit {0}
IsUp (Some x) at = x.r ≤ at

-- values are told to a read, not below the read time of the open transaction; and a begin is told to a session that has
-- none open, with the id that it uses next
abbrev pub IsTold : Actor → ℕ → Option Opened → Option Command → Told → Type 0
IsTold m serial opened line (told.Values at restarts rows) = IsReadLine line × IsUp opened at
IsTold m serial opened line (told.Began y at) =
    (m ≡ Session (session_of m)) × IsBeginLine line × (opened ≡ None) × (y ≡ txn_id (session_of m) (serial + 1)) × (serial + 1 < 2 ^ 64)
IsTold m serial opened line t = Unit {0}

-- by what the session keeps, and by its line
abbrev pub IsToldAt : Config → History → Actor → Event → Type 0
IsToldAt config h m (Tell number t) =
    IsTold m (mover_at config m h).keeps.serial (mover_at config m h).keeps.opened (mover_at config m h).line t
IsToldAt config h m event = Unit {0}

abbrev pub ReadsAreUp : Type 0
ReadsAreUp = (config : Config) (h before : History) (e : Entry) → Run config h → StandsOver e before h → IsToldAt config before e.actor e.event

-- ## at what time a write reads

-- the session had the transaction open with this read time before
abbrev pub WasOpen : Config → History → Actor → ℕ → ℕ → Type 0
WasOpen config h m x read =
    (e : Entry) × (z : History) × StandsOver e z h
    × ((o : Opened) × ((mover_at config m z).keeps.opened ≡ Some o) × (o.meta.txn ≡ x) × (o.r ≡ read))

abbrev pub ReadsAsOpen : Config → History → Event → Type 0
ReadsAsOpen config h (Serve from (request.Write meta number path op read seen fates) r time append) = WasOpen config h from meta.txn read
ReadsAsOpen config h event = Unit {0}

-- a write reads at a time at which its session had the transaction open
abbrev pub WritesReadAsOpen : Type 0
WritesReadAsOpen = (config : Config) (h before : History) (e : Entry) → Run config h → StandsOver e before h → ReadsAsOpen config before e.event
