-- The lines of commands by their kinds, and what is told of one.
use Rattle.std.specs.Prelude.{◌≡◌, Bool, true, false, ◌&&◌, Option, Some, ◌⊎◌}
use Rattle.txn_data.specs.declared.actor.Actor.{Actor}
use Rattle.txn_data.specs.declared.actor.Actor.TheVariants.{Session}
use Rattle.txn_data.specs.declared.command.Command.{Command}
use Rattle.txn_data.specs.declared.command.Command.TheVariants as command
use Rattle.txn_data.specs.declared.config.Config.{Config}
use Rattle.txn_data.specs.declared.request.Request.{Request}
use Rattle.txn_data.specs.declared.request.Request.TheVariants as request
use Rattle.txn_data.specs.declared.told.Told.{Told}
use Rattle.txn_data.specs.declared.told.Told.TheVariants as told
use Rattle.txn_data.specs.declared.told_refusal.ToldRefusal.{ToldRefusal}
use Rattle.txn_data.specs.declared.told_refusal.ToldRefusal.TheVariants as why
use Rattle.txn_types.specs.Run.{Mover, mover_at}
use Rattle.txn_types.specs.Cause.{ToldAt}

-- how far the mover had come when it was told
abbrev pub mover_then : Config → ToldAt → Mover
mover_then config t = mover_at config t.who t.before

-- ## kinds of lines

abbrev pub is_begin : Option Command → Bool
is_begin (Some (command.Begin priority)) = true
is_begin line = false

-- a put or a del
abbrev pub is_write : Option Command → Bool
is_write (Some (command.Put place v)) = true
is_write (Some (command.Del place)) = true
is_write line = false

-- a commit, an abort or an end
abbrev pub is_end : Option Command → Bool
is_end (Some command.Commit) = true
is_end (Some command.Abort) = true
is_end (Some command.End) = true
is_end line = false

-- an abort or an end
abbrev pub is_abort_line : Option Command → Bool
is_abort_line (Some command.Abort) = true
is_abort_line (Some command.End) = true
is_abort_line line = false

-- a read or a scan
abbrev pub is_read : Option Command → Bool
is_read (Some (command.Read strict places)) = true
is_read (Some (command.Scan strict place)) = true
is_read line = false

abbrev pub is_single : Option Command → Bool
is_single (Some (command.SinglePut place v priority)) = true
is_single (Some (command.SingleDel place priority)) = true
is_single line = false

abbrev pub is_pass : Option Command → Bool
is_pass (Some (command.Apply tablet)) = true
is_pass line = false

abbrev pub is_restart : Option Command → Bool
is_restart (Some (command.Restart a)) = true
is_restart line = false

-- ## the Abort that closes

abbrev pub is_abort : Request → Bool
is_abort (request.Abort x) = true
is_abort asked = false

-- the Abort that a put or a del asks after a refusal: whatever it is answered is told to nobody
abbrev pub is_closing : Option Command → Request → Bool
is_closing line asked = is_abort asked && is_write line

-- ## what is told

-- just this refusal; an applier may be told out of memory instead
abbrev pub TellsJust : Actor → Told → ToldRefusal → Type 0
TellsJust (Session i) t w = t ≡ told.Refused w
TellsJust m t w = (t ≡ told.Refused w) ⊎ (t ≡ told.Refused why.Memory)

-- this refusal, or out of memory
abbrev pub TellsOrMemory : Told → ToldRefusal → Type 0
TellsOrMemory t w = (t ≡ told.Refused w) ⊎ (t ≡ told.Refused why.Memory)
