use Rattle.std.proofs.Common.{◌≡◌, ◌++◌, drop}
use Rattle.std.specs.List.{All}
use Rattle.std.specs.Prelude.{◌≤◌, option_map}
use Rattle.toml.specs.View.{items_view}
use Rattle.cluster_config.specs.Head.{largest, whole_numbers}
use Rattle.cluster_config.proofs.values.whole_numbers.Given as goal

abbrev pub invariant-items : goal.invariant-items
invariant-items l = record {
  same : whole_numbers (items_view l.value-items)
      ≡ option_map (λ ns. l.numbers.items ++ ns) (whole_numbers (items_view (drop l.value-index l.value-items)));
  small : All (λ n. n ≤ largest) l.numbers.items;
}
