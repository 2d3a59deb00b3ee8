-- What a machine makes of its own entries, and what took effect of them.
use Rattle.std.specs.Prelude.{◌≡◌, ℕ, Bool, true, false, [], ◌∷◌, ◌++◌, Option, Some, None, ◌⊎◌}
use Rattle.txn_data.specs.declared.actor.Actor.{Actor}
use Rattle.txn_data.specs.declared.append.Append.TheVariants.{Nothing, Took, Failed}
use Rattle.txn_data.specs.declared.event.Event.{Event}
use Rattle.txn_data.specs.declared.event.Event.TheVariants.{Serve, Restarted}
use Rattle.txn_data.specs.declared.entry.Entry.{Entry}
use Rattle.txn_types.specs.History.{History, own}
use Rattle.txn_types.specs.Run.{Serves, CanKeep}

-- e stands in the history, and these are the entries before it
abbrev pub StandsOver : Entry → History → History → Type 0
StandsOver e before [] = ⊥
StandsOver e before (f ∷ h) = ((f ≡ e) × (h ≡ before)) ⊎ StandsOver e before h

-- the time that an entry took
abbrev pub time_of : Event → Option ℕ
time_of (Serve from asked r time append) = time
time_of event = None

-- each entry of a machine's own is what its table answers over those before it
abbrev pub ServesNext : ℕ → Actor → History → Option ℕ → Event → Type 0
ServesNext lease a o reading (Serve from asked r time append) = Serves lease a o reading asked r time append
ServesNext lease a o reading (Restarted from kept) = CanKeep kept o
ServesNext lease a o reading event = Unit {0}

unfoldable pub ServesAll : ℕ → Actor → History → Type 0
ServesAll lease a [] = Unit {0}
ServesAll lease a (e ∷ o) = ServesAll lease a o × (e.actor ≡ a) × ServesNext lease a o e.reading e.event

-- the entry whose append failed since the last restart: the next restart decides of it
abbrev pub piece_after : Option Entry → Entry → Event → Option Entry
piece_after p e (Serve from asked r time Failed) = Some e
piece_after p e (Restarted from kept) = None
piece_after p e event = p

unfoldable pub piece : History → Option Entry
piece [] = None
piece (e ∷ o) = piece_after (piece o) e e.event

-- what takes effect with one more entry: what was served without a fault, and at a restart the piece that it kept
abbrev pub restored : Option Entry → Bool → History
restored (Some p) true = p ∷ []
restored (Some p) false = []
restored None kept = []

abbrev pub effect : Option Entry → Entry → Event → History
effect p e (Serve from asked r time Nothing) = e ∷ []
effect p e (Serve from asked r time Took) = e ∷ []
effect p e (Restarted from kept) = restored p kept
effect p e event = []

-- what took effect of a machine's own entries, in the order of taking effect
unfoldable pub landed : History → History
landed [] = []
landed (e ∷ o) = effect (piece o) e e.event ++ landed o

-- what took effect at all machines
unfoldable pub effects : History → History
effects [] = []
effects (e ∷ h) = effect (piece (own e.actor h)) e e.event ++ effects h
