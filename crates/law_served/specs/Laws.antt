-- What was served for each told command, in every run.
use Rattle.std.specs.Prelude.{true, List, Option, Some, None, reverse}
use Rattle.txn_data.specs.declared.actor.Actor.{Actor}
use Rattle.txn_data.specs.declared.command.Command.{Command}
use Rattle.txn_data.specs.declared.config.Config.{Config}
use Rattle.txn_data.specs.declared.told.Told.{Told}
use Rattle.txn_types.specs.Lists.{Member}
use Rattle.txn_types.specs.History.{History}
use Rattle.txn_types.specs.Session.{Keeps}
use Rattle.txn_types.specs.Run.{Run, mover_at, program_of}
use Rattle.txn_types.specs.Cause.{ToldAt, tells, ServedAt, served_since}
use Rattle.law_courses.specs.Laws.{CouldStart}
use Rattle.law_served.specs.Ran.{Ran}

-- the mover's line could be started, and its program came to this with what was served for it, the newest first
abbrev pub RanAs : Config → Actor → List ServedAt → Keeps → Option Command → Told → Type 0
RanAs config m ss keeps None t = ⊥
RanAs config m ss keeps (Some line) t = CouldStart config m keeps line × Ran m true (reverse ss) (program_of config m keeps line) t

-- so did each told command, with what was served for it since its start
abbrev pub ToldCommandsRan : Type 0
ToldCommandsRan = (config : Config) (h : History) (t : ToldAt) → Run config h → Member t (tells h) →
    RanAs config t.who (served_since t.who t.before) (mover_at config t.who t.before).keeps (mover_at config t.who t.before).line t.told
