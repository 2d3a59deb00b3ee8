-- The accepted writes of a transaction in every run, and their numbers.
use Rattle.std.specs.Prelude.{◌≡◌, ℕ, ◌<◌, Some, None}
use Rattle.txn_data.specs.declared.actor.Actor.TheVariants.{Session}
use Rattle.txn_data.specs.declared.config.Config.{Config}
use Rattle.txn_data.specs.declared.request.Request.TheVariants as request
use Rattle.txn_data.specs.declared.reply.Reply.TheVariants as reply
use Rattle.txn_data.specs.declared.event.Event.{Event}
use Rattle.txn_data.specs.declared.event.Event.TheVariants.{Serve}
use Rattle.txn_data.specs.declared.entry.Entry.{Entry}
use Rattle.txn_types.specs.Lists.{Member}
use Rattle.txn_types.specs.History.{History}
use Rattle.txn_types.specs.Committed.{writes}
use Rattle.txn_types.specs.Session.{Opened, writes_of}
use Rattle.txn_types.specs.Run.{Run, mover_at}
use Rattle.law_machines.specs.Own.{StandsOver}

-- an accepted write of the transaction with this number
abbrev pub IsNumbered : ℕ → ℕ → Event → Type 0
IsNumbered x n (Serve from (request.Write meta number path op read seen fates) (reply.Written w) time append) = (meta.txn ≡ x) × (number ≡ n)
IsNumbered x n event = ⊥

-- of two accepted writes of a transaction the later one has the greater number
abbrev pub NumbersRise : Type 0
NumbersRise = (config : Config) (h before : History) (e f : Entry) (x n k : ℕ) → Run config h → StandsOver f before h → Member e before →
    IsNumbered x n e.event → IsNumbered x k f.event → n < k

-- what a session keeps of its open transaction as accepted is what was accepted, where no command is under way
abbrev pub OpenKeepsItsWrites : Type 0
OpenKeepsItsWrites = (config : Config) (h : History) (i : ℕ) (x : Opened) → Run config h → (mover_at config (Session i) h).line ≡ None →
    (mover_at config (Session i) h).keeps.opened ≡ Some x → writes_of x.writes ≡ writes h x.meta.txn
