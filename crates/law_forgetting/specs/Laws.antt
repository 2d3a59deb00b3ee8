-- What a status tablet has forgotten in every run.
use Rattle.std.specs.Prelude.{◌≡◌, ℕ, true, List, Some}
use Rattle.txn_data.specs.declared.actor.Actor.TheVariants.{Tablet}
use Rattle.txn_data.specs.declared.config.Config.{Config}
use Rattle.txn_data.specs.declared.fate.Fate.TheVariants as fate
use Rattle.txn_data.specs.declared.request.Request.TheVariants as request
use Rattle.txn_data.specs.declared.event.Event.{Event}
use Rattle.txn_data.specs.declared.event.Event.TheVariants.{Serve}
use Rattle.txn_data.specs.declared.entry.Entry.{Entry}
use Rattle.txn_types.specs.Lists.{Member}
use Rattle.txn_types.specs.History.{History, was_logged}
use Rattle.txn_types.specs.Run.{Run}
use Rattle.law_machines.specs.Own.{StandsOver}
use Rattle.law_fates.specs.Laws.{Tells, CommittedAt}
use Rattle.law_open_txns.specs.Transaction.{Begun}
use Rattle.law_carried_fates.specs.Laws.{HasApplied}

-- the transaction was applied at this tablet
abbrev pub WasApplied : History → ℕ → ℕ → Type 0
WasApplied h x k = (s : Entry) × Member s h × (s.actor ≡ Tablet k) × HasApplied x s.event

-- the entry commits the transaction at this time, with these tablets
abbrev pub CommitsWith : ℕ → ℕ → List ℕ → Event → Type 0
CommitsWith x c tablets (Serve from (request.Commit y floor named) r (Some d) append) = (y ≡ x) × (d ≡ c) × (named ≡ tablets)
CommitsWith x c tablets event = ⊥

-- all tablets that its commit named have applied it
pub record IsForgotten (h : History) (x c : ℕ) : Type 0 where
  pub entry : Entry
  pub tablets : List ℕ
  pub member : Member entry h
  pub commits : CommitsWith x c tablets entry.event
  pub logs : was_logged entry.event ≡ true
  pub applied : (k : ℕ) → Member k tablets → WasApplied h x k

-- where a transaction was told Absent after it was begun, and is committed in the end, then all tablets that its commit named
-- had applied it by then
abbrev pub ToldAbsentIsForgotten : Type 0
ToldAbsentIsForgotten = (config : Config) (h b : History) (j : Entry) (x c : ℕ) → Run config h → StandsOver j b h → Begun b x → Tells x j.event fate.Absent →
    CommittedAt h x c → IsForgotten b x c
