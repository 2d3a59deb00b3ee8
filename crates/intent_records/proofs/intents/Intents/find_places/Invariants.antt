use Rattle.std.proofs.Common.{take}
use Rattle.std.specs.BTreeMap.{get}
use Rattle.std.specs.Ordering.{nat_cmp}
use Rattle.intent_records.specs.Related.{placed, Adds}
use Rattle.intent_records.specs.Search.{in_any}
use Rattle.intent_records.proofs.intents.Intents.find_places.Given as goal

abbrev pub invariant-loop-range : goal.invariant-loop-range
invariant-loop-range l =
    Adds (λ x i. placed (in_any (take l.range-index l.range-items)) x i l.self.records.entries) (get nat_cmp l.fn.places) (get nat_cmp l.places)
