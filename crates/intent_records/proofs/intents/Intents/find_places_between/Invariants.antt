use Rattle.std.specs.BTreeMap.{get}
use Rattle.std.specs.Ordering.{nat_cmp}
use Rattle.intent_records.specs.Related.{placed}
use Rattle.intent_records.specs.Search.{between}
use Rattle.intent_records.proofs.Places.{AddsRest}
use Rattle.intent_records.proofs.intents.Intents.find_places_between.Given as goal

abbrev pub invariant-loop-key : goal.invariant-loop-key
invariant-loop-key l =
    AddsRest (λ x i. placed (between l.fn.range.first l.fn.range.end) x i l.self.records.entries) l.key-iterator (get nat_cmp l.fn.places) (get nat_cmp l.places)
