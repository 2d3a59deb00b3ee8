use Rattle.std.proofs.Common.{◌≡◌, drop, max}
use Rattle.txn_data.specs.declared.fate_of.FateOf.{FateOf}
use Rattle.txn_types.specs.Tablet.{greatest_fate}
use Rattle.conflict_matrix.proofs.Walk.{Ahead}
use Rattle.tablet_records.proofs.fates.floor_of.Given as goal

abbrev pub invariant-loop-of : goal.invariant-loop-of
invariant-loop-of l = record {
  ahead : Ahead (λ (f : FateOf). f.txn) l.fates l.fates l.of-index l.firsts;
  floor : max l.fn.seen (greatest_fate l.fates l.fates) ≡ max l.floor (greatest_fate l.fates (drop l.of-index l.fates));
}
