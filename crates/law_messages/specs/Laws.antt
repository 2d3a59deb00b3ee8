-- What holds of messages in flight in every run.
use Rattle.std.specs.Prelude.{◌≡◌, None}
use Rattle.txn_data.specs.declared.actor.Actor.{Actor}
use Rattle.txn_data.specs.declared.config.Config.{Config}
use Rattle.txn_data.specs.declared.request.Request.{Request}
use Rattle.txn_data.specs.declared.reply.Reply.{Reply}
use Rattle.txn_data.specs.declared.told.Told.{Told}
use Rattle.txn_types.specs.History.{History}
use Rattle.txn_types.specs.Program.{Program, Asks}
use Rattle.txn_types.specs.Run.{Run, mover_at, flight, Quiet, Asked, Answered}

-- a mover between two commands has nothing in flight
abbrev pub IdleIsQuiet : Type 0
IdleIsQuiet = (config : Config) (h : History) (m : Actor) → Run config h → (mover_at config m h).line ≡ None → flight m h ≡ Quiet

-- a request in flight is the one that its program asks next
abbrev pub AskedIsNext : Type 0
AskedIsNext = (config : Config) (h : History) (m to : Actor) (asked : Request) → Run config h → flight m h ≡ Asked to asked →
    (next : Reply → Program Told) × ((mover_at config m h).rest ≡ Asks to asked next)

-- and so was one whose reply is in flight
abbrev pub AnsweredIsNext : Type 0
AnsweredIsNext = (config : Config) (h : History) (m by : Actor) (r : Reply) → Run config h → flight m h ≡ Answered by r →
    (asked : Request) × (next : Reply → Program Told) × ((mover_at config m h).rest ≡ Asks by asked next)
