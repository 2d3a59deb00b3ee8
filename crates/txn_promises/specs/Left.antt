-- When no session is at work, and what the last pass over a tablet leaves then.
use Rattle.std.specs.Prelude.{◌≡◌, ℕ, List, ◌++◌, None}
use Rattle.txn_data.specs.declared.actor.Actor.TheVariants.{Session, Applier}
use Rattle.txn_data.specs.declared.config.Config.{Config}
use Rattle.txn_data.specs.declared.entry.Entry.{Entry}
use Rattle.txn_types.specs.History.{History}
use Rattle.txn_types.specs.Run.{mover_at}
use Rattle.txn_types.specs.Reads.{before_start}
use Rattle.txn_types.specs.Settled.{SettledBy, last_told}

-- no session has a command under way
abbrev pub SessionsRest : Config → History → Type 0
SessionsRest config h = (i : ℕ) → (mover_at config (Session i) h).line ≡ None

-- nor had one at any moment since this front part of the history
abbrev pub RestSince : Config → History → History → Type 0
RestSince config front h = (later here : List Entry) → h ≡ later ++ (here ++ front) → SessionsRest config (here ++ front)

-- The applier has no pass under way, and no session had a command under way since its last pass began: then its tablet is
-- settled with the number that this pass told.
abbrev pub LeftAsTold : Config → History → ℕ → Type 0
LeftAsTold config h k =
    (mover_at config (Applier k) h).line ≡ None → RestSince config (before_start (Applier k) h) h → SettledBy h k (last_told (Applier k) h)
