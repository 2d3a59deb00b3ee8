use Rattle.std.proofs.Common.{◌≡◌, ◌++◌}
use Rattle.std.specs.BTreeMap.{get}
use Rattle.std.specs.Ordering.{nat_cmp}
use Rattle.intent_records.specs.Steps.{told}
use Rattle.intent_records.proofs.intents.Intents.founds.Given as goal

abbrev pub invariant-loop-txn : goal.invariant-loop-txn
invariant-loop-txn l = l.founds ++ told (get nat_cmp l.self.metas) l.txn-iterator ≡ told (get nat_cmp l.self.metas) l.txns.keys
