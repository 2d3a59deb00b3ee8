-- What the table of an actor allows of its own entries.
use Rattle.std.specs.Prelude.{◌≡◌, ℕ, [], ◌∷◌, Option, None}
use Rattle.txn_data.specs.declared.actor.Actor.{Actor}
use Rattle.txn_data.specs.declared.event.Event.{Event}
use Rattle.txn_data.specs.declared.event.Event.TheVariants.{Serve, Restarted}
use Rattle.txn_types.specs.History.{History}
use Rattle.txn_types.specs.Run.{Serves, CanKeep}

-- after these entries the table allows this one: a request is served as it answers, and a restart keeps a failed piece only
-- where there is one
abbrev pub AllowsNext : ℕ → Actor → History → Option ℕ → Event → Type 0
AllowsNext lease a h reading (Serve from asked r time append) = Serves lease a h reading asked r time append
AllowsNext lease a h reading (Restarted from kept) = (reading ≡ None) × CanKeep kept h
AllowsNext lease a h reading event = ⊥

-- it allows each entry after those before it
unfoldable pub AllowsAll : ℕ → Actor → History → Type 0
AllowsAll lease a [] = Unit {0}
AllowsAll lease a (e ∷ h) = AllowsAll lease a h × AllowsNext lease a h e.reading e.event
