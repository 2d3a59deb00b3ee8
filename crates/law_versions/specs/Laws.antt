-- The versions of a tablet in every run: they are the writes of what is committed.
use Rattle.std.specs.Prelude.{◌≡◌, ℕ, Some, List, ◌⊎◌}
use Rattle.txn_data.specs.declared.actor.Actor.TheVariants.{Tablet}
use Rattle.txn_data.specs.declared.config.Config.{Config}
use Rattle.txn_data.specs.declared.request.Request.TheVariants as request
use Rattle.txn_data.specs.declared.reply.Reply.TheVariants as reply
use Rattle.txn_data.specs.declared.version.Version.{Version}
use Rattle.txn_data.specs.declared.event.Event.{Event}
use Rattle.txn_data.specs.declared.event.Event.TheVariants.{Serve}
use Rattle.txn_data.specs.declared.entry.Entry.{Entry}
use Rattle.txn_types.specs.Lists.{Member}
use Rattle.txn_types.specs.History.{History, own, counting}
use Rattle.txn_types.specs.Tablet.{Intent, version_at, provisional, versions}
use Rattle.txn_types.specs.Run.{Run}
use Rattle.law_machines.specs.Own.{StandsOver}
use Rattle.law_fates.specs.Laws.{CommittedAt}

-- the entry makes this version: it is an accepted write of a transaction that is committed at its time, or a single write
-- that counts
abbrev pub MakesVersion : History → Version → Entry → Event → Type 0
MakesVersion h v e (Serve from (request.Write meta number path op read seen fates) (reply.Written w) time append) =
    (v ≡ record { path = path; at = v.at; wrote = w; number = number; op = op }) × CommittedAt h meta.txn v.at
MakesVersion h v e (Serve from (request.Single x path op seen fates) r (Some c) append) =
    (v ≡ record { path = path; at = c; wrote = c; number = 0; op = op }) × Member e (counting h)
MakesVersion h v e event = ⊥

-- an entry of the tablet makes this version, of what is committed in the end; the entry stands in `before`
abbrev pub IsMadeIn : History → History → ℕ → Version → Type 0
IsMadeIn h before k v = (e : Entry) × Member e before × (e.actor ≡ Tablet k) × MakesVersion h v e e.event

-- the history itself, or what stood before an entry of it
abbrev pub IsFront : History → History → Type 0
IsFront before h = (before ≡ h) ⊎ ((f : Entry) × StandsOver f before h)

-- each version of a tablet was made by a write of what is committed
abbrev pub VersionsAreCommits : Type 0
VersionsAreCommits = (config : Config) (h before : History) (k : ℕ) (v : Version) → Run config h → IsFront before h → Member v (versions (own (Tablet k) before)) → IsMadeIn h before k v

-- and so is each provisional write of what is committed in the end, as the version that it becomes
abbrev pub IntentsAreWrites : Type 0
IntentsAreWrites = (config : Config) (h before : History) (k c : ℕ) (p : Intent) → Run config h → IsFront before h → Member p (provisional (own (Tablet k) before)) →
    CommittedAt h p.meta.txn c → IsMadeIn h before k (version_at c p)

-- the version is still provisional
abbrev pub IsWaiting : History → Version → List Intent → Type 0
IsWaiting h v ps = (p : Intent) × Member p ps × (version_at v.at p ≡ v) × CommittedAt h p.meta.txn v.at

-- what an entry made is there: a single write as this very version, another as this very version or provisional
abbrev pub IsThere : History → Version → List Version → List Intent → Event → Type 0
IsThere h v vs ps (Serve from (request.Single x path op seen fates) r time append) = Member v vs
IsThere h v vs ps event = Member v vs ⊎ IsWaiting h v ps

-- of a single write it is asked that it counts there already
abbrev pub CountsIn : History → Entry → Event → Type 0
CountsIn before e (Serve from (request.Single x path op seen fates) r time append) = Member e (counting before)
CountsIn before e event = Member e before

-- each write of what is committed is a version of the tablet that accepted it, or provisional there
abbrev pub CommitsAreThere : Type 0
CommitsAreThere = (config : Config) (h before : History) (e : Entry) (k : ℕ) (v : Version) → Run config h → IsFront before h → e.actor ≡ Tablet k → CountsIn before e e.event →
    MakesVersion h v e e.event → IsThere h v (versions (own (Tablet k) before)) (provisional (own (Tablet k) before)) e.event

-- no version gives way to another
abbrev pub VersionsStay : Type 0
VersionsStay = (config : Config) (h before : History) (k : ℕ) (v : Version) → Run config h → IsFront before h → Member v (versions (own (Tablet k) before)) →
    Member v (versions (own (Tablet k) h))

-- none has the path, the commit time and the number of another
abbrev pub VersionsAreUnique : Type 0
VersionsAreUnique = (config : Config) (h : History) (k : ℕ) (u v : Version) → Run config h → IsMadeIn h h k u → IsMadeIn h h k v → u.path ≡ v.path → u.at ≡ v.at → u.number ≡ v.number → u ≡ v
