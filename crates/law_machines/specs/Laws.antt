-- What holds of each machine in every run.
use Rattle.std.specs.Prelude.{◌≡◌, filter}
use Rattle.txn_data.specs.declared.actor.Actor.{Actor}
use Rattle.txn_data.specs.declared.config.Config.{Config}
use Rattle.txn_data.specs.declared.entry.Entry.{Entry}
use Rattle.txn_types.specs.History.{History, own, standing, was_logged}
use Rattle.txn_types.specs.Run.{Run}
use Rattle.law_machines.specs.Own.{ServesAll, effects}

-- each machine's own entries are what its table answers, one after another
abbrev pub EachByItsTable : Type 0
EachByItsTable = (config : Config) (h : History) (a : Actor) → Run config h → ServesAll config.lease_us a (own a h)

-- what stands in the log of an actor is what took effect there and was logged
abbrev pub LogIsWhatTookEffect : Type 0
LogIsWhatTookEffect = (config : Config) (h : History) (a : Actor) → Run config h →
    standing (own a h) ≡ filter (λ (e : Entry). was_logged e.event) (own a (effects h))
