-- What holds of the times of each machine in every run: over its restarts, and with failed appends that its log kept or lost.
use Rattle.std.specs.Prelude.{◌≡◌, ℕ, ◌<◌, ◌≤◌, true, Option, Some, None, max}
use Rattle.hybrid_time.specs.Time.{micros_of}
use Rattle.txn_data.specs.declared.actor.Actor.{Actor}
use Rattle.txn_data.specs.declared.append.Append.{Append}
use Rattle.txn_data.specs.declared.config.Config.{Config}
use Rattle.txn_data.specs.declared.fate.Fate.TheVariants as fate
use Rattle.txn_data.specs.declared.request.Request.{Request}
use Rattle.txn_data.specs.declared.request.Request.TheVariants as request
use Rattle.txn_data.specs.declared.reply.Reply.{Reply}
use Rattle.txn_data.specs.declared.reply.Reply.TheVariants as reply
use Rattle.txn_data.specs.declared.event.Event.{Event}
use Rattle.txn_data.specs.declared.event.Event.TheVariants.{Serve}
use Rattle.txn_data.specs.declared.entry.Entry.{Entry}
use Rattle.std.specs.Prelude.{List}
use Rattle.txn_types.specs.Lists.{Member}
use Rattle.txn_types.specs.History.{History, own, counting}
use Rattle.txn_types.specs.Clock.{Kind, Own, Floor, last_time, has_given, lease_end}
use Rattle.txn_types.specs.Tablet.{greatest_fate, local_limit}
use Rattle.txn_types.specs.Run.{Run}
use Rattle.law_machines.specs.Own.{StandsOver, time_of}

-- which time a request takes: one of its own, or one that is not below its floor
abbrev pub kind_of : Request → Kind
kind_of (request.Write meta number path op read seen fates) = Own
kind_of (request.Single x path op seen fates) = Own
kind_of (request.Commit x floor tablets) = Own
kind_of asked = Floor

-- the time below which a request takes none
abbrev pub floor_of : Request → ℕ
floor_of (request.Write meta number path op read seen fates) = seen
floor_of (request.Single x path op seen fates) = max seen (greatest_fate fates fates)
floor_of (request.ListRead own_txn paths t g limit) = t
floor_of (request.AskFate x t) = t
floor_of (request.Apply x at) = at
floor_of (request.Commit x floor tablets) = floor
floor_of asked = 0

-- the entry took a time of its own
abbrev pub TookOwn : Event → Type 0
TookOwn (Serve from asked r time append) = kind_of asked ≡ Own
TookOwn event = ⊥

abbrev pub floor_at : Event → ℕ
floor_at (Serve from asked r time append) = floor_of asked
floor_at event = 0

-- a time is not below another, and above it where it is one of its own
abbrev pub IsPast : Event → ℕ → ℕ → Type 0
IsPast event x y = (x ≤ y) × (TookOwn event → x < y)

-- a time is past those of all earlier entries of its actor that count, over restarts too; of the later one nothing is
-- asked: its append may have failed, and been kept or lost
abbrev pub TimesRise : Type 0
TimesRise = (config : Config) (h before : History) (e f : Entry) (x y : ℕ) → Run config h → StandsOver f before h → Member e (counting before) →
    e.actor ≡ f.actor → time_of e.event ≡ Some x → time_of f.event ≡ Some y → IsPast f.event x y

-- and past its own floor
abbrev pub TimesKeepFloors : Type 0
TimesKeepFloors = (config : Config) (h : History) (f : Entry) (y : ℕ) → Run config h → Member f h → time_of f.event ≡ Some y → IsPast f.event (floor_at f.event) y

-- what counted before an entry of its actor that has a time counts for good
abbrev pub CountsForGood : Type 0
CountsForGood = (config : Config) (h before : History) (e f : Entry) (y : ℕ) → Run config h → StandsOver f before h → Member e (counting before) →
    e.actor ≡ f.actor → time_of f.event ≡ Some y → Member e (counting h)

-- the microseconds of a time are not above the end of the lease
abbrev pub IsCovered : Option ℕ → ℕ → Type 0
IsCovered None x = ⊥
IsCovered (Some end) x = micros_of x ≤ end

-- the lease of a machine covers each of its counting times
abbrev pub LeasesCover : Type 0
LeasesCover = (config : Config) (h : History) (e : Entry) (x : ℕ) → Run config h → Member e (counting h) → time_of e.event ≡ Some x →
    IsCovered (lease_end config.lease_us (own e.actor h)) x

-- once a machine gave a time since its last restart, its last time is the greatest of its counting times
abbrev pub LastIsGreatest : Type 0
LastIsGreatest = (config : Config) (h : History) (e : Entry) (x : ℕ) → Run config h → Member e (counting h) → time_of e.event ≡ Some x →
    has_given (own e.actor h) ≡ true → x ≤ last_time (own e.actor h)

-- where a status tablet answered Pending to a question at t, it commits later only above t
abbrev pub PendingPromises : Type 0
PendingPromises = (config : Config) (h before : History) (j k : Entry) (m n : Actor) (x y t floor c : ℕ) (tablets : List ℕ) (r : Reply)
    (time : Option ℕ) (append after : Append) → Run config h → StandsOver k before h → Member j before → j.actor ≡ k.actor →
    j.event ≡ Serve m (request.AskFate x t) (reply.FateIs fate.Pending) time append →
    k.event ≡ Serve n (request.Commit y floor tablets) r (Some c) after → t < c

-- an entry in which a tablet listed what a read may have to ask about
abbrev pub Listing : Event → ℕ → ℕ → Option ℕ → ℕ → Type 0
Listing (Serve from (request.ListRead own_txn paths u v given) (reply.Listed fixed others) time append) t g limit local =
    (u ≡ t) × (v ≡ g) × (given ≡ limit) × (fixed ≡ local)
Listing event t g limit local = ⊥

-- a request that writes: it may add a provisional write, or a version of its own
abbrev pub Adds : Event → Type 0
Adds (Serve from (request.Write meta number path op read seen fates) r time append) = Unit {0}
Adds (Serve from (request.Single x path op seen fates) r time append) = Unit {0}
Adds event = ⊥

-- a tablet that answered a listing read has reached its time, and fixes the limit by the time that it reached
pub record Reached (t g : ℕ) (limit : Option ℕ) (local now : ℕ) : Type 0 where
  pub past : t ≤ now
  pub fixed : local ≡ local_limit limit now g

abbrev pub ListingsReach : Type 0
ListingsReach = (config : Config) (h : History) (j : Entry) (t g : ℕ) (limit : Option ℕ) (local : ℕ) → Run config h → Member j h →
    Listing j.event t g limit local → (now : ℕ) × (time_of j.event ≡ Some now) × Reached t g limit local now

-- after a listing read at t, a tablet adds only above t, and above the local limit, where it was fixed then and not given
abbrev pub ListingsPromise : Type 0
ListingsPromise = (config : Config) (h before : History) (j f : Entry) (t g : ℕ) (limit : Option ℕ) (local w : ℕ) → Run config h →
    StandsOver f before h → Member j before → j.actor ≡ f.actor → Listing j.event t g limit local → Adds f.event → time_of f.event ≡ Some w →
    (t < w) × (limit ≡ None → local < w)
