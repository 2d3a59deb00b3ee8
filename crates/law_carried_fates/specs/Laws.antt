-- What a request carries of others was told before, in every run.
use Rattle.std.specs.Prelude.{◌≡◌, ℕ, List, ◌⊎◌}
use Rattle.txn_data.specs.declared.actor.Actor.TheVariants.{Tablet}
use Rattle.txn_data.specs.declared.config.Config.{Config}
use Rattle.txn_data.specs.declared.fate.Fate.{Fate}
use Rattle.txn_data.specs.declared.fate.Fate.TheVariants as fate
use Rattle.txn_data.specs.declared.fate_of.FateOf.{FateOf}
use Rattle.txn_data.specs.declared.request.Request.TheVariants as request
use Rattle.txn_data.specs.declared.reply.Reply.TheVariants as reply
use Rattle.txn_data.specs.declared.event.Event.{Event}
use Rattle.txn_data.specs.declared.event.Event.TheVariants.{Serve}
use Rattle.txn_data.specs.declared.entry.Entry.{Entry}
use Rattle.txn_types.specs.Lists.{Member}
use Rattle.txn_types.specs.History.{History}
use Rattle.txn_types.specs.Run.{Run}
use Rattle.law_machines.specs.Own.{StandsOver}
use Rattle.law_fates.specs.Laws.{Tells, CommittedAt}

-- an entry before told this of the transaction
abbrev pub WasTold : History → ℕ → Fate → Type 0
WasTold h x f = (e : Entry) × Member e h × Tells x e.event f

-- the fates that a write or a single write carries
abbrev pub Carries : Event → List FateOf → Type 0
Carries (Serve from (request.Write meta number path op read seen fates) r time append) given = fates ≡ given
Carries (Serve from (request.Single x path op seen fates) r time append) given = fates ≡ given
Carries event given = ⊥

-- each of them was told before, and none of them is Pending
abbrev pub FatesWereTold : Type 0
FatesWereTold = (config : Config) (h before : History) (e : Entry) (fates : List FateOf) (f : FateOf) → Run config h → StandsOver e before h →
    Carries e.event fates → Member f fates → (f.fate ≡ fate.Pending → ⊥) × WasTold before f.txn f.fate

abbrev pub AppliesAt : ℕ → ℕ → Event → Type 0
AppliesAt x c (Serve from (request.Apply y at) r time append) = (y ≡ x) × (at ≡ c)
AppliesAt x c event = ⊥

-- what is applied was committed before at that time
abbrev pub AppliesAreOfCommits : Type 0
AppliesAreOfCommits = (config : Config) (h before : History) (e : Entry) (x c : ℕ) → Run config h → StandsOver e before h → AppliesAt x c e.event → CommittedAt before x c

abbrev pub CleansOf : ℕ → Event → Type 0
CleansOf x (Serve from (request.Clean y) r time append) = y ≡ x
CleansOf x event = ⊥

-- what is cleaned was told Aborted or Absent before
abbrev pub CleansAreOfEnded : Type 0
CleansAreOfEnded = (config : Config) (h before : History) (e : Entry) (x : ℕ) → Run config h → StandsOver e before h → CleansOf x e.event →
    WasTold before x fate.Aborted ⊎ WasTold before x fate.Absent

abbrev pub NotesOf : ℕ → ℕ → Event → Type 0
NotesOf x k (Serve from (request.Applied y tablet) r time append) = (y ≡ x) × (tablet ≡ k)
NotesOf x k event = ⊥

abbrev pub HasApplied : ℕ → Event → Type 0
HasApplied x (Serve from (request.Apply y at) reply.AppliedHere time append) = y ≡ x
HasApplied x event = ⊥

-- what is noted was applied at that tablet before
abbrev pub NotesFollowApplies : Type 0
NotesFollowApplies = (config : Config) (h before : History) (e : Entry) (x k : ℕ) → Run config h → StandsOver e before h → NotesOf x k e.event →
    (s : Entry) × Member s before × (s.actor ≡ Tablet k) × HasApplied x s.event
