use Rattle.std.proofs.Common.{◌≡◌}
use Rattle.toml.specs.View.{members_view}
use Rattle.cluster_config.specs.Head.{has_listed_keys}
use Rattle.cluster_config.proofs.keys.has_listed_keys.Given as goal

abbrev pub invariant-members : goal.invariant-members
invariant-members l =
    (goal.iterator-members).can_next l.key-iterator × (goal.iterator-members).is_finite l.key-iterator
    × (has_listed_keys (members_view l.key-iterator) ≡ has_listed_keys (members_view l.table.entries))
