use Rattle.std.proofs.Common.{◌≡◌, List, length}
use Rattle.std.specs.Vec.Iter.{into_iter_items, into_iter_len}
use Rattle.txn_data.specs.declared.version.Version.{Version}
use Rattle.txn_types.specs.Tablet.{with_versions}
use Rattle.regular_records.specs.Holding.{Holds}
use Rattle.regular_records.specs.Store.{versions_of}
use Rattle.regular_records.specs.Kept.{IsKept}
use Rattle.regular_records.specs.Adding.{HaveSlots}
use Rattle.regular_records.specs.NewestBeneath.{HavePlaces, SumsUp}
use Rattle.regular_records.proofs.adding.fill_slots.Given as goal

abbrev pub invariant-loop-version : goal.invariant-loop-version
invariant-loop-version l = record {
  kept : IsKept l.paths;
  count : length (into_iter_items l.version-iterator) ≡ into_iter_len l.version-iterator;
  slots : HaveSlots l.paths.entries (into_iter_items l.version-iterator);
  places : HavePlaces (into_iter_items l.version-iterator) l.beneath;
  sums : SumsUp l.initial.beneath (versions_of l.initial.paths.entries) → SumsUp l.beneath (versions_of l.paths.entries);
  holds : (vs : List Version) → Holds (versions_of l.initial.paths.entries) vs
      → (us : List Version) × Holds (versions_of l.paths.entries) us × (with_versions us (into_iter_items l.version-iterator) ≡ with_versions vs l.fn.list.items);
}
