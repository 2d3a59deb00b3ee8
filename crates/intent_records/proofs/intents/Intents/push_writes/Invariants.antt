use Rattle.std.proofs.Common.{◌≡◌, List, ◌++◌}
use Rattle.std.specs.Prelude.{map, filter_map, slice_get}
use Rattle.txn_types.specs.Tablet.{Intent}
use Rattle.intent_records.specs.Holds.{Holds, own, provisional_of}
use Rattle.intent_records.proofs.intents.Intents.push_writes.Given as goal

abbrev pub invariant-loop-position : goal.invariant-loop-position
invariant-loop-position l =
    (ps : List Intent) → Holds l.self ps
    → l.list.items ++ map provisional_of (filter_map (slice_get (own l.txn ps)) l.position-iterator)
    ≡ l.fn.list.items ++ map provisional_of (filter_map (slice_get (own l.txn ps)) l.positions.keys)
