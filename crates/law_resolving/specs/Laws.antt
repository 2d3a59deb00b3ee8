-- What a write carries of others was told when they had been begun, in every run.
use Rattle.std.specs.Prelude.{◌≡◌, ℕ, List}
use Rattle.txn_data.specs.declared.config.Config.{Config}
use Rattle.txn_data.specs.declared.fate.Fate.{Fate}
use Rattle.txn_data.specs.declared.fate.Fate.TheVariants as fate
use Rattle.txn_data.specs.declared.fate_of.FateOf.{FateOf}
use Rattle.txn_data.specs.declared.entry.Entry.{Entry}
use Rattle.txn_types.specs.Lists.{Member}
use Rattle.txn_types.specs.History.{History}
use Rattle.txn_types.specs.Run.{Run}
use Rattle.law_machines.specs.Own.{StandsOver}
use Rattle.law_fates.specs.Laws.{Tells}
use Rattle.law_open_txns.specs.Transaction.{Begun}
use Rattle.law_carried_fates.specs.Laws.{Carries}

-- an entry told this of the transaction, when it had been begun
abbrev pub ToldWhenBegun : History → ℕ → Fate → Type 0
ToldWhenBegun h x f = (j : Entry) × (b : History) × StandsOver j b h × Begun b x × Tells x j.event f

-- each fate that a write or a single write carries was told so before, and none of them is Pending
abbrev pub FatesAreOfBegun : Type 0
FatesAreOfBegun = (config : Config) (h before : History) (e : Entry) (fates : List FateOf) (f : FateOf) → Run config h → StandsOver e before h →
    Carries e.event fates → Member f fates → (f.fate ≡ fate.Pending → ⊥) × ToldWhenBegun before f.txn f.fate
