-- What a session recorded tells the origin of its reads in every run.
use Rattle.std.specs.Prelude.{◌≡◌, ℕ, Bool, true, false, ◌&&◌, [], ◌∷◌, Option, Some, None, length, if◌then◌else◌}
use Rattle.txn_data.specs.declared.actor.Actor.{Actor}
use Rattle.txn_data.specs.declared.actor.Actor.TheVariants.{Session}
use Rattle.txn_data.specs.declared.config.Config.{Config}
use Rattle.txn_data.specs.declared.told.Told.TheVariants as told
use Rattle.txn_data.specs.declared.event.Event.{Event}
use Rattle.txn_data.specs.declared.event.Event.TheVariants.{Tell}
use Rattle.txn_types.specs.Lists.{Member}
use Rattle.txn_types.specs.History.{History, same_actor}
use Rattle.txn_types.specs.Plan.{IsSession}
use Rattle.txn_types.specs.Reads.{Read, reads, before_start, start_of, reading_after, origin}
use Rattle.txn_types.specs.Run.{Run}

-- it is told that a transaction began
abbrev pub is_began : Event → Bool
is_began (Tell number (told.Began x at)) = true
is_began event = false

-- the history before the Start of the begin that a mover was told of last
unfoldable pub last_begin : Actor → History → History
last_begin a [] = []
last_begin a (e ∷ h) = if same_actor e.actor a && is_began e.event then before_start a h else last_begin a h

-- the first reading that the session recorded from the Start of a read on, where it recorded one
abbrev pub reading_since : Read → Option ℕ
reading_since read = reading_after (Session read.session) (length (start_of read)) read.before

-- the origin as that reading tells it: the read's own Start where there is one, else that of the last begin
abbrev pub origin_by : Read → Option ℕ → History
origin_by read (Some reading) = start_of read
origin_by read None = last_begin (Session read.session) read.before

-- the session of a finished read has one of their numbers, and what it recorded tells the read's origin
pub record ShowsOrigin (config : Config) (read : Read) : Type 0 where
  pub session : IsSession read.session
  pub origin : origin config read ≡ origin_by read (reading_since read)

abbrev pub OriginsShow : Type 0
OriginsShow = (config : Config) (h : History) (read : Read) → Run config h → Member read (reads h) → ShowsOrigin config read
