use Rattle.std.proofs.Common.{◌≡◌, ◌||◌, List, take, ap, ◌∙◌}
use Rattle.std.specs.BTreeSet.{contains}
use Rattle.std.specs.Ordering.{nat_cmp}
use Rattle.std.proofs.lemmas.List.{take_all}
use Rattle.intent_records.specs.declared.path_range.PathRange.{PathRange}
use Rattle.intent_records.specs.Search.{hit, near, in_any}
use Rattle.intent_records.proofs.Hits.{hit-same, hit-start, hit-range_more}
use Rattle.intent_records.proofs.intents.Intents.find_related.Goals as goal

pub loop-range-init : goal.loop-range-init
loop-range-init c = λ x.
    hit-start c.deref-range-items.result.now c.args.asked.now.own c.args.asked.now.until x c.args.self.now.records.entries (contains nat_cmp c.args.found.now x)

pub loop-range-preserved : goal.loop-range-preserved
loop-range-preserved c = λ x.
    hit-range_more c.deref-range-items.result.now c.loop-range.range-index c.range-item.result c.args.asked.now.own c.args.asked.now.until x c.args.self.now.records.entries
    (contains nat_cmp c.args.found.now x) (contains nat_cmp c.loop-range.found x) (contains nat_cmp c.find_between.new.found x)
    c.loop-range-test.true c.range-item.is (c.loop-range.invariant x) (c.in_ok-find_between.ensures x)

pub returns-clause-found : goal.returns-clause-found
returns-clause-found c = λ x.
    let ranges = c.deref-range-items.result.now in
    let whole : take c.loop-range.range-index ranges ≡ ranges = take_all c.loop-range.range-index ranges c.loop-range-test.false in
    let own = c.args.asked.now.own in
    let until = c.args.asked.now.until in
    c.loop-range.invariant x
    ∙ ap (λ (l : List PathRange). contains nat_cmp c.args.found.now x || hit (in_any l) own until x c.args.self.now.records.entries) (whole ∙ c.deref-range-items.ensures.value)
    ∙ ap (λ b. contains nat_cmp c.args.found.now x || b)
    (hit-same (in_any c.in_ok-related_ranges.field-0.items) (near c.args.path.now) c.in_ok-related_ranges.ensures.related own until x c.args.self.now.records.entries)
