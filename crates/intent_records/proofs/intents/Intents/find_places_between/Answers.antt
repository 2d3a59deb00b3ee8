use Rattle.std.proofs.Common.{◌∙◌}
use Rattle.std.specs.BTreeMap.{get}
use Rattle.std.specs.Ordering.{nat_cmp}
use Rattle.intent_records.specs.Related.{placed}
use Rattle.intent_records.specs.Search.{between}
use Rattle.intent_records.proofs.Places.{rest-start, rest-next, rest-end}
use Rattle.intent_records.proofs.intents.Intents.find_places_between.Goals as goal

pub loop-key-init : goal.loop-key-init
loop-key-init c =
    rest-start c.args.range.now.first c.args.range.now.end c.in_ok-first.first c.in_ok-end.end c.into_iter-key-iterator.result c.args.self.now.records.entries
    (get nat_cmp c.args.places.now) c.in_ok-first.ensures c.in_ok-end.ensures (c.into_iter-key-iterator.ensures.into_iter_gives ∙ c.range-key-items.ensures.between tt)

pub loop-key-preserved : goal.loop-key-preserved
loop-key-preserved c =
    rest-next (λ x i. placed (between c.args.range.now.first c.args.range.now.end) x i c.args.self.now.records.entries) c.in-Some.key.now _ c.next.new.self c.loop-key.key-iterator
    (get nat_cmp c.args.places.now) (get nat_cmp c.loop-key.places) (get nat_cmp c.add_place.new.places)
    c.in-Some.ensures.steps c.in_ok-add_place.ensures c.loop-key.invariant

pub returns : goal.returns
returns c =
    rest-end (λ x i. placed (between c.args.range.now.first c.args.range.now.end) x i c.args.self.now.records.entries) c.loop-key.key-iterator
    (get nat_cmp c.args.places.now) (get nat_cmp c.loop-key.places) c.in-None.ensures.steps.0 c.loop-key.invariant
