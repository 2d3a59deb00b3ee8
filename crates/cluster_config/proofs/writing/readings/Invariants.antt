use Rattle.std.proofs.Common.{◌≡◌, take}
use Rattle.toml.specs.View.{items_view}
use Rattle.cluster_config.specs.Table.{integers}
use Rattle.cluster_config.proofs.writing.readings.Given as goal

abbrev pub invariant-items : goal.invariant-items
invariant-items l = items_view l.values.items ≡ integers (take l.reading-index l.numbers)
