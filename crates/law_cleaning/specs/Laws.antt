-- What a pass cleans was begun before it asked what became of it, in every run.
use Rattle.std.specs.Prelude.{ℕ, ◌⊎◌}
use Rattle.txn_data.specs.declared.config.Config.{Config}
use Rattle.txn_data.specs.declared.fate.Fate.TheVariants as fate
use Rattle.txn_data.specs.declared.entry.Entry.{Entry}
use Rattle.txn_types.specs.History.{History}
use Rattle.txn_types.specs.Run.{Run}
use Rattle.law_machines.specs.Own.{StandsOver}
use Rattle.law_fates.specs.Laws.{Tells}
use Rattle.law_open_txns.specs.Transaction.{Begun}
use Rattle.law_carried_fates.specs.Laws.{CleansOf}

-- an entry told that the transaction was aborted or that there is no record of it, when it had been begun
abbrev pub ToldEnded : History → ℕ → Type 0
ToldEnded h x = (j : Entry) × (b : History) × StandsOver j b h × Begun b x × (Tells x j.event fate.Aborted ⊎ Tells x j.event fate.Absent)

-- what is cleaned was told so before
abbrev pub CleansAreOfBegun : Type 0
CleansAreOfBegun = (config : Config) (h before : History) (e : Entry) (x : ℕ) → Run config h → StandsOver e before h → CleansOf x e.event → ToldEnded before x
