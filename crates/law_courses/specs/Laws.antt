-- What each told command asked and heard, in every run.
use Rattle.std.specs.Prelude.{◌≡◌, ℕ, ◌∷◌, Option, Some, None, ◌⊎◌}
use Rattle.txn_data.specs.declared.actor.Actor.{Actor}
use Rattle.txn_data.specs.declared.command.Command.{Command}
use Rattle.txn_data.specs.declared.config.Config.{Config}
use Rattle.txn_data.specs.declared.told.Told.{Told}
use Rattle.txn_data.specs.declared.told.Told.TheVariants as told
use Rattle.txn_data.specs.declared.told_refusal.ToldRefusal.TheVariants as told_refusal
use Rattle.txn_data.specs.declared.event.Event.{Event}
use Rattle.txn_data.specs.declared.event.Event.TheVariants.{Tell}
use Rattle.txn_data.specs.declared.entry.Entry.{Entry}
use Rattle.txn_types.specs.History.{History}
use Rattle.txn_types.specs.Reads.{before_start}
use Rattle.txn_types.specs.Session.{Keeps}
use Rattle.txn_types.specs.Run.{Run, Mover, MayStart, mover_at, program_of}
use Rattle.law_machines.specs.Own.{StandsOver}
use Rattle.law_courses.specs.Course.{Came}

-- the line could be started by a mover that keeps this
abbrev pub CouldStart : Config → Actor → Keeps → Command → Type 0
CouldStart config m keeps line = (s : Mover) × (s.keeps ≡ keeps) × MayStart config m s line

-- the mover's line has this behind it: its program came to what is told, or out of memory is told
abbrev pub CameAbout : Config → Actor → History → History → Keeps → Option ℕ → Option Command → Told → Type 0
CameAbout config m h low keeps reading None t = ⊥
CameAbout config m h low keeps reading (Some line) t =
    CouldStart config m keeps line
    × (Came m h reading low None (program_of config m keeps line) t ⊎ (t ≡ told.Refused told_refusal.Memory))

-- over the history with the telling entry
abbrev pub CameAt : Config → History → Event → Actor → History → Type 0
CameAt config h (Tell number t) m g =
    CameAbout config m g (before_start m h) (mover_at config m h).keeps (mover_at config m h).reading (mover_at config m h).line t
CameAt config h event m g = Unit {0}

-- each told command came about by the answers to its requests, one after another since its start, where out of memory may
-- have been heard in place of one; or out of memory is told
abbrev pub ToldCommandsCameAbout : Type 0
ToldCommandsCameAbout = (config : Config) (h before : History) (e : Entry) → Run config h → StandsOver e before h → CameAt config before e.event e.actor (e ∷ before)
