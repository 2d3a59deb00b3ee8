use Rattle.std.proofs.Common.{◌≡◌, List, ◌++◌}
use Rattle.std.specs.List.{AllByRecursion}
use Rattle.txn_data.specs.declared.version.Version.{Version}
use Rattle.txn_types.specs.Tablet.{writes_at}
use Rattle.regular_records.specs.Merged.{paths_in, HasParts, AreKnown, rows_at}
use Rattle.regular_records.proofs.merged.rows_on.Given as goal

abbrev pub invariant-loop-parts : goal.invariant-loop-parts
invariant-loop-parts g l = record {
  rows : (us vs : List Version) → g.V.Versions.holds l.older us → g.V.Versions.holds l.newer vs → AreKnown (writes_at l.fn.t (us ++ vs)) l.fn.places.entries
      → AreKnown (writes_at l.fn.t (us ++ vs)) l.parts-iterator × (l.rows ++ rows_at l.fn.t (us ++ vs) (paths_in l.parts-iterator) ≡ rows_at l.fn.t (us ++ vs) (paths_in l.fn.places.entries));
  parts : AllByRecursion HasParts (paths_in l.parts-iterator);
  fit : AllByRecursion g.V.Versions.fits (paths_in l.parts-iterator);
}
