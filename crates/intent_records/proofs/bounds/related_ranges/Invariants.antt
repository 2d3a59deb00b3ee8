use Rattle.std.proofs.Common.{◌≡◌, take}
use Rattle.doc_path.specs.Path.{Parts}
use Rattle.intent_records.specs.Search.{above_to, in_any}
use Rattle.intent_records.proofs.bounds.related_ranges.Given as goal

abbrev pub invariant-loop-i : goal.invariant-loop-i
invariant-loop-i l = record {
  above : l.above ≡ take l.i l.path;
  ranges : (q : Parts) → in_any l.ranges.items q ≡ above_to l.i l.path q;
}
