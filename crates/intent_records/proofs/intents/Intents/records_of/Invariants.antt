use Rattle.std.proofs.Common.{◌≡◌, List, take}
use Rattle.std.specs.Prelude.{map}
use Rattle.txn_types.specs.Tablet.{Intent}
use Rattle.intent_records.specs.Holds.{Holds, own, provisional_of}
use Rattle.intent_records.proofs.intents.Intents.records_of.Given as goal

abbrev pub invariant-loop-position : goal.invariant-loop-position
invariant-loop-position l = (ps : List Intent) → Holds l.self ps → l.list.items ≡ map provisional_of (take l.position (own l.txn ps))
