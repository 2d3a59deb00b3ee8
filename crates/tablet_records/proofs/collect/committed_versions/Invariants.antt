use Rattle.std.proofs.Common.{◌≡◌, ◌++◌}
use Rattle.std.specs.Prelude.{filter_map}
use Rattle.std.specs.BTreeMap.{get}
use Rattle.std.specs.Ordering.{nat_cmp}
use Rattle.tablet_records.specs.Committed.{version_under}
use Rattle.tablet_records.proofs.collect.committed_versions.Given as goal

abbrev pub invariant-loop-write : goal.invariant-loop-write
invariant-loop-write l =
    l.list.items ++ filter_map (version_under (get nat_cmp l.firsts)) l.write-iterator.rest.items ≡ filter_map (version_under (get nat_cmp l.firsts)) l.fn.writes.items
