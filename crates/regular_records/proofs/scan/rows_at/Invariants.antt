use Rattle.std.proofs.Common.{◌≡◌, ◌++◌, Some}
use Rattle.txn_types.specs.Lists.{Member}
use Rattle.regular_records.specs.Store.{Key, PathVersions, path_versions_at}
use Rattle.regular_records.specs.PrefixWords.{AreWords}
use Rattle.regular_records.specs.Kept.{AreKept}
use Rattle.regular_records.specs.Scan.{rows_down, entries_from}
use Rattle.regular_records.proofs.scan.rows_at.Given as goal

abbrev pub invariant-loop-beneath : goal.invariant-loop-beneath
invariant-loop-beneath l = record {
  rows : l.rows ++ rows_down l.fn.t l.path.items l.paths l.beneath-iterator ≡ rows_down l.fn.t l.path.items l.paths (entries_from l.path l.paths);
  kept : AreKept l.beneath-iterator;
  found : (e : Key × PathVersions) → Member e l.beneath-iterator → path_versions_at e.0.items l.paths ≡ Some e.1;
  words : AreWords l.fn.t l.paths l.words;
}
