use Rattle.std.proofs.Common.{◌≡◌, ◌≤◌, length, take}
use Rattle.txn_types.specs.Writes.{last_word}
use Rattle.docdb_run.specs.Course.{writes_of}
use Rattle.docdb_run.proofs.tablet.Tablet.value_at.Given as goal

abbrev pub invariant-loop-i : goal.invariant-loop-i
invariant-loop-i l = record {
  in_range : l.i ≤ length l.versions;
  word : last_word (writes_of l.versions) l.path ≡ last_word (writes_of (take l.i l.versions)) l.path;
}
