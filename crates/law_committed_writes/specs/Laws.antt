-- Where the writes of a committed transaction are in every run.
use Rattle.std.specs.Prelude.{◌≡◌, ℕ, List, Some, ◌⊎◌}
use Rattle.doc_path.specs.Path.{Parts}
use Rattle.txn_data.specs.declared.actor.Actor.{Actor}
use Rattle.txn_data.specs.declared.actor.Actor.TheVariants.{Tablet, Status}
use Rattle.txn_data.specs.declared.append.Append.{Append}
use Rattle.txn_data.specs.declared.config.Config.{Config}
use Rattle.txn_data.specs.declared.fate_of.FateOf.{FateOf}
use Rattle.txn_data.specs.declared.meta.Meta.{Meta}
use Rattle.txn_data.specs.declared.op.Op.{Op}
use Rattle.txn_data.specs.declared.request.Request.TheVariants as request
use Rattle.txn_data.specs.declared.reply.Reply.TheVariants as reply
use Rattle.txn_data.specs.declared.version.Version.{Version}
use Rattle.txn_data.specs.declared.event.Event.TheVariants.{Serve}
use Rattle.txn_data.specs.declared.entry.Entry.{Entry}
use Rattle.txn_types.specs.Lists.{Member}
use Rattle.txn_types.specs.History.{History, own}
use Rattle.txn_types.specs.Status.{Committed, record_of}
use Rattle.txn_types.specs.Tablet.{Intent, provisional, versions}
use Rattle.txn_types.specs.Run.{Run}
use Rattle.law_owners.specs.Owner.{home_of}
use Rattle.law_fates.specs.Laws.{CommittedAt}

-- a provisional write that was written so, or a version at this path and commit time
abbrev pub IsKept : Intent → ℕ → List Intent → List Version → Type 0
IsKept p c ps vs = Member p ps ⊎ ((v : Version) × Member v vs × (v.path ≡ p.path) × (v.at ≡ c))

-- each accepted write of a committed transaction is provisional at the tablet that accepted it, or there is a version
-- there at its path with the commit time
abbrev pub CommittedIsKept : Type 0
CommittedIsKept = (config : Config) (h : History) (e : Entry) (k c number w read seen : ℕ) (m : Actor) (meta : Meta) (path : Parts) (op : Op) (fates : List FateOf) (append : Append) →
    Run config h → Member e h → e.actor ≡ Tablet k → e.event ≡ Serve m (request.Write meta number path op read seen fates) (reply.Written w) (Some w) append → CommittedAt h meta.txn c →
    IsKept (record { meta = meta; number = number; path = path; op = op; wrote = w }) c (provisional (own (Tablet k) h)) (versions (own (Tablet k) h))

-- while something of a committed transaction is provisional at a tablet, its record says that it is committed, and when
abbrev pub CommittedIsRecorded : Type 0
CommittedIsRecorded = (config : Config) (h : History) (p : Intent) (k x c : ℕ) → Run config h → Member p (provisional (own (Tablet k) h)) → p.meta.txn ≡ x → CommittedAt h x c →
    (tablets : List ℕ) × (record_of x (own (Status (home_of config x)) h) ≡ Committed c tablets)
