-- How the times of an actor's entries rise, and when its lease covers them.
use Rattle.std.specs.Prelude.{◌≡◌, ℕ, ◌⊎◌, Bool, true, false, [], ◌∷◌, Option, Some, None}
use Rattle.txn_data.specs.declared.request.Request.{Request}
use Rattle.txn_data.specs.declared.request.Request.TheVariants as request
use Rattle.txn_data.specs.declared.event.Event.{Event}
use Rattle.txn_data.specs.declared.event.Event.TheVariants.{Serve}
use Rattle.txn_data.specs.declared.entry.Entry.{Entry}
use Rattle.txn_types.specs.Lists.{Member}
use Rattle.txn_types.specs.History.{History}
use Rattle.safe_time.specs.Course.{IsLater, IsLeased}

-- these requests take a time of their own, above the last one; any other takes none, or one that is not below it
abbrev pub takes_own : Request → Bool
takes_own (request.Write meta number path op read seen fates) = true
takes_own (request.Single x path op seen fates) = true
takes_own (request.Commit x floor tablets) = true
takes_own asked = false

-- the time that an entry took
abbrev pub time_taken : Event → Option ℕ
time_taken (Serve from asked r time append) = time
time_taken event = None

-- f is one of these entries, and `before` are those before it
abbrev pub StandsOver : Entry → History → History → Type 0
StandsOver f before [] = ⊥
StandsOver f before (e ∷ h) = ((e ≡ f) × (h ≡ before)) ⊎ StandsOver f before h

-- the later time is above the earlier one where it is one of its own, else not below it
abbrev pub IsPast : Event → ℕ → ℕ → Type 0
IsPast (Serve from asked r time append) earlier later = IsLater (takes_own asked) later earlier
IsPast event earlier later = ⊥

-- the time of each of these entries is past those of all before it
abbrev pub Rise : History → Type 0
Rise h = (before : History) (e f : Entry) (earlier later : ℕ) → StandsOver f before h → Member e before
    → time_taken e.event ≡ Some earlier → time_taken f.event ≡ Some later → IsPast f.event earlier later

-- the microseconds of the time of each of these entries are not above the end of the lease
abbrev pub AreLeased : Option ℕ → History → Type 0
AreLeased end h = (e : Entry) (time : ℕ) → Member e h → time_taken e.event ≡ Some time → IsLeased end time
