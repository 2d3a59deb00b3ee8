-- What a tablet holds of a transaction in every run.
use Rattle.std.specs.Prelude.{◌≡◌, ℕ}
use Rattle.txn_data.specs.declared.actor.Actor.TheVariants.{Tablet}
use Rattle.txn_data.specs.declared.config.Config.{Config}
use Rattle.txn_data.specs.declared.entry.Entry.{Entry}
use Rattle.txn_types.specs.Lists.{Member}
use Rattle.txn_types.specs.History.{History, own}
use Rattle.txn_types.specs.Tablet.{Intent, provisional}
use Rattle.txn_types.specs.Run.{Run}
use Rattle.law_carried_fates.specs.Laws.{HasApplied}

-- no provisional write of the transaction is at the tablet
abbrev pub NoneAt : History → ℕ → ℕ → Type 0
NoneAt h k x = (p : Intent) → Member p (provisional (own (Tablet k) h)) → p.meta.txn ≡ x → ⊥

-- once a tablet has answered that a transaction is applied there, it holds no provisional write of it any more
abbrev pub AppliedStaysApplied : Type 0
AppliedStaysApplied = (config : Config) (h : History) (s : Entry) (x k : ℕ) → Run config h → Member s h → s.actor ≡ Tablet k → HasApplied x s.event → NoneAt h k x
