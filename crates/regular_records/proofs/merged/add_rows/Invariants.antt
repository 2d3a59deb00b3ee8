use Rattle.std.proofs.Common.{◌≡◌, List, ◌++◌, if◌then◌else◌}
use Rattle.std.specs.List.{AllByRecursion}
use Rattle.txn_data.specs.declared.version.Version.{Version}
use Rattle.txn_data.specs.declared.row.Row.{Row}
use Rattle.txn_types.specs.Tablet.{writes_at}
use Rattle.regular_records.specs.Merged.{paths_in, with_rows, HasParts, HaveValues, AreKnown}
use Rattle.regular_records.proofs.merged.add_rows.Given as goal

abbrev pub invariant-loop-row : goal.invariant-loop-row
invariant-loop-row g l = record {
  fit : AllByRecursion (λ (r : Row). g.V.Versions.fits r.path) l.row-iterator.rest.items;
  paths : with_rows (paths_in l.places.entries) l.row-iterator.rest.items ≡ with_rows (paths_in l.fn.places.entries) l.fn.rows;
  parts : AllByRecursion HasParts (paths_in l.fn.places.entries) → AllByRecursion HasParts (paths_in l.places.entries);
  known : (us vs : List Version) → g.V.Versions.holds l.older us → g.V.Versions.holds l.newer vs
      → HaveValues (writes_at l.fn.t (if l.fn.of_older then us else vs)) l.fn.rows → AreKnown (writes_at l.fn.t (us ++ vs)) l.fn.places.entries
      → HaveValues (writes_at l.fn.t (if l.fn.of_older then us else vs)) l.row-iterator.rest.items × AreKnown (writes_at l.fn.t (us ++ vs)) l.places.entries;
}
