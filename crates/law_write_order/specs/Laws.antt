-- The order of related writes at a tablet in every run.
use Rattle.std.specs.Prelude.{◌≡◌, ℕ, ◌<◌, ◌≤◌, true, Some}
use Rattle.doc_path.specs.Path.{Parts, related}
use Rattle.txn_data.specs.declared.config.Config.{Config}
use Rattle.txn_data.specs.declared.request.Request.TheVariants as request
use Rattle.txn_data.specs.declared.reply.Reply.TheVariants as reply
use Rattle.txn_data.specs.declared.event.Event.{Event}
use Rattle.txn_data.specs.declared.event.Event.TheVariants.{Serve}
use Rattle.txn_data.specs.declared.entry.Entry.{Entry}
use Rattle.txn_types.specs.Lists.{Member}
use Rattle.txn_types.specs.History.{History, counting}
use Rattle.txn_types.specs.Run.{Run}
use Rattle.law_machines.specs.Own.{StandsOver}
use Rattle.law_fates.specs.Laws.{CommittedAt}

-- the entry writes at this path, and is committed at this time in the end: an accepted write of a transaction that is, or
-- a single write that counts
abbrev pub IsCommittedWrite : History → ℕ → ℕ → Parts → Entry → Event → Type 0
IsCommittedWrite h x c path e (Serve from (request.Write meta number p op read seen fates) (reply.Written w) time append) =
    (meta.txn ≡ x) × (p ≡ path) × CommittedAt h x c
IsCommittedWrite h x c path e (Serve from (request.Single y p op seen fates) r (Some d) append) =
    (y ≡ x) × (p ≡ path) × (d ≡ c) × Member e (counting h)
IsCommittedWrite h x c path e event = ⊥

-- the write read not below this time
abbrev pub ReadFrom : ℕ → Event → Type 0
ReadFrom c (Serve from (request.Write meta number path op read seen fates) r time append) = c ≤ read
ReadFrom c event = Unit {0}

-- of two related writes of different transactions at a tablet, both committed in the end, the earlier one is committed
-- before the later one, and not above the time that the later one read at; single writes are among them
abbrev pub RelatedWritesAreInOrder : Type 0
RelatedWritesAreInOrder = (config : Config) (h before : History) (e f : Entry) (x y c d : ℕ) (p q : Parts) → Run config h → StandsOver f before h →
    Member e before → e.actor ≡ f.actor → IsCommittedWrite h x c p e e.event → IsCommittedWrite h y d q f f.event → (x ≡ y → ⊥) →
    related p q ≡ true → (c < d) × ReadFrom c f.event
