-- Where the microseconds of a machine's times come from in every run.
use Rattle.std.specs.Prelude.{◌≡◌, ℕ, ◌∷◌, Some, ◌⊎◌}
use Rattle.hybrid_time.specs.Time.{micros_of}
use Rattle.txn_data.specs.declared.config.Config.{Config}
use Rattle.txn_data.specs.declared.entry.Entry.{Entry}
use Rattle.txn_types.specs.Lists.{Member}
use Rattle.txn_types.specs.History.{History, own}
use Rattle.txn_types.specs.Run.{Run}
use Rattle.law_machines.specs.Own.{StandsOver, time_of}
use Rattle.law_clocks.specs.Laws.{floor_at}

-- these microseconds are 0, or a reading that one of the entries recorded, or those of the floor that one of them was asked for
abbrev pub ComesFrom : History → ℕ → Type 0
ComesFrom o micros = (micros ≡ 0) ⊎ ((e : Entry) × Member e o × (e.reading ≡ Some micros)) ⊎ ((e : Entry) × Member e o × (micros_of (floor_at e.event) ≡ micros))

-- the microseconds of a time of a machine are 0, or a reading that the machine recorded up to then, or those of a floor
-- that it was asked for up to then
abbrev pub TimesComeFrom : Type 0
TimesComeFrom = (config : Config) (h before : History) (f : Entry) (y : ℕ) → Run config h → StandsOver f before h → time_of f.event ≡ Some y →
    ComesFrom (own f.actor (f ∷ before)) (micros_of y)
