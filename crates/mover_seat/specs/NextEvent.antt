-- What a mover does next, by its own entries and the message on its way.
use Rattle.std.specs.Prelude.{ℕ, Bool, List, Some, None, nat_lt, if◌then◌else◌}
use Rattle.txn_data.specs.declared.actor.Actor.{Actor}
use Rattle.txn_data.specs.declared.actor.Actor.TheVariants.{Session, Applier}
use Rattle.txn_data.specs.declared.command.Command.{Command}
use Rattle.txn_data.specs.declared.config.Config.{Config}
use Rattle.txn_types.specs.History.{History}
use Rattle.txn_types.specs.Run.{Mover, Flight, mover_at}
use Rattle.txn_types.specs.Script.{lines, commands_of, started}
use Rattle.mover_chain.specs.NextEvent.{Given, NextEvent, NoneLeft, goes_on, session_starts, pass_starts}

-- a session, of whose lines these were begun
abbrev pub session_from : List Command → Bool → List Command → Mover → Flight → NextEvent
session_from given all begun m f = elim m.line [
  | Some line ↦ goes_on f m.rest
  | None ↦ session_starts all begun given m.keeps.opened
]

-- an applier that began so many passes
abbrev pub applier_from : Bool → ℕ → ℕ → ℕ → Mover → Flight → NextEvent
applier_from done passes k begun m f = elim m.line [
  | Some line ↦ goes_on f m.rest
  | None ↦ pass_starts k passes begun done
]

-- session `i`, which was given these lines so far; `all` where no more come
abbrev pub session_event : List Command → Bool → Config → ℕ → History → Flight → NextEvent
session_event given all config i g f = session_from given all (lines (Session i) g) (mover_at config (Session i) g) f

-- the applier of tablet `k`; `done` where each session was told its last command and no more lines come
abbrev pub applier_event : Bool → Config → ℕ → History → Flight → NextEvent
applier_event done config k g f = applier_from done config.passes k (started (Applier k) g) (mover_at config (Applier k) g) f

-- the event of any mover; an applier whose tablet is not there has none
abbrev pub own_event : Given → Bool → Config → Actor → History → Flight → NextEvent
own_event given done config (Session i) g f = session_event (commands_of i given.sessions) given.all config i g f
own_event given done config (Applier k) g f = if nat_lt k config.tablets then applier_event done config k g f else NoneLeft
own_event given done config a g f = NoneLeft
