use Rattle.std.proofs.Common.{◌≡◌, take, ap, ◌∙◌}
use Rattle.std.specs.BTreeMap.{get}
use Rattle.std.specs.Ordering.{nat_cmp}
use Rattle.std.proofs.lemmas.List.{take_all}
use Rattle.intent_records.specs.Search.{in_any}
use Rattle.intent_records.proofs.Places.{adds-start, adds-range_more, adds-all}
use Rattle.intent_records.proofs.intents.Intents.find_places.Goals as goal

pub loop-range-init : goal.loop-range-init
loop-range-init c = adds-start c.deref-range-items.result.now c.args.self.now.records.entries (get nat_cmp c.args.places.now)

pub loop-range-preserved : goal.loop-range-preserved
loop-range-preserved c =
    adds-range_more c.deref-range-items.result.now c.loop-range.range-index c.range-item.result c.args.self.now.records.entries
    (get nat_cmp c.args.places.now) (get nat_cmp c.loop-range.places) (get nat_cmp c.find_places_between.new.places)
    c.loop-range-test.true c.range-item.is c.loop-range.invariant c.in_ok-find_places_between.ensures

pub returns : goal.returns
returns c =
    let ranges = c.deref-range-items.result.now in
    let whole : take c.loop-range.range-index ranges ≡ ranges = take_all c.loop-range.range-index ranges c.loop-range-test.false in
    adds-all ranges c.loop-range.range-index c.args.path.now c.args.self.now.records.entries (get nat_cmp c.args.places.now) (get nat_cmp c.loop-range.places) whole
    (λ q. ap (λ l. in_any l q) c.deref-range-items.ensures.value ∙ c.in_ok-related_ranges.ensures.related q) c.loop-range.invariant
