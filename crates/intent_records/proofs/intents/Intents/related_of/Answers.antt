use Rattle.std.proofs.Common.{◌≤◌, length, sym, arith}
use Rattle.std.specs.BTreeMap.{get}
use Rattle.std.specs.BTreeSet.{contains}
use Rattle.std.specs.Ordering.{nat_cmp}
use Rattle.std.proofs.lemmas.Grind.{common_steps}
use Rattle.intent_records.specs.Related.{placed}
use Rattle.intent_records.specs.Search.{near_any}
use Rattle.intent_records.proofs.Picked.{among-first, among-rest, asked-placed, has-end, listed-more, picked-held}
use Rattle.intent_records.proofs.Places.{has-start, has-more}
use Rattle.intent_records.proofs.intents.Intents.related_of.Goals as goal

pub loop-path-init : goal.loop-path-init
loop-path-init c =
    has-start (contains nat_cmp c.args.txns.now) c.args.paths.now c.args.self.now.records.entries (get nat_cmp c.in_ok-places.places) c.in_ok-places.ensures

pub loop-path-preserved : goal.loop-path-preserved
loop-path-preserved c =
    has-more (contains nat_cmp c.args.txns.now) c.args.paths.now c.loop-path.path-index c.path-item.result c.args.self.now.records.entries
    (get nat_cmp c.loop-path.places) (get nat_cmp c.find_places.new.places)
    (grind (arith, common_steps)) (grind (arith, common_steps)) c.loop-path.invariant c.in_ok-find_places.ensures

pub loop-txn-preserved-in-Continue-branch-3 : goal.loop-txn-preserved-in-Continue-branch-3
loop-txn-preserved-in-Continue-branch-3 c =
    let s = c.args.self.now in
    let paths = c.args.paths.now in
    let asked = contains nat_cmp c.args.txns.now in
    let places = get nat_cmp c.loop-path.places in
    let x = c.in-Some.txn.now in
    let rest = c.next.new.self in
    let left = c.loop-txn.txn-iterator in
    let all : length paths ≤ c.loop-path.path-index = grind (arith, common_steps) in
    let has = has-end asked paths c.loop-path.path-index s.records.entries places all c.loop-path.invariant in
    record {
      among = λ y h. c.loop-txn.invariant.among y (among-rest x rest left y c.in-Some.ensures.steps h);
      listed = λ ps holds.
          listed-more paths x rest left ps c.in-Some-get.positions.now.keys c.loop-txn.list.items c.push_writes.new.list.items _
          c.in-Some.ensures.steps (c.in_ok-push_writes.ensures.pushed ps holds)
          (picked-held s ps holds paths asked places x c.in-Some-get.positions.now has (sym c.in-Some-get.ensures.value) c.in_ok-push_writes.ensures.ordered)
          (c.loop-txn.invariant.listed ps holds);
    }

pub loop-txn-preserved : goal.loop-txn-preserved
loop-txn-preserved c =
    let s = c.args.self.now in
    let paths = c.args.paths.now in
    let x = c.in-Some.txn.now in
    let all : length paths ≤ c.loop-path.path-index = grind (arith, common_steps) in
    let has = has-end (contains nat_cmp c.args.txns.now) paths c.loop-path.path-index s.records.entries (get nat_cmp c.loop-path.places) all c.loop-path.invariant in
    let asked = c.loop-txn.invariant.among x (among-first x c.next.new.self c.loop-txn.txn-iterator c.in-Some.ensures.steps) in
    absurd (asked-placed (contains nat_cmp c.args.txns.now) (λ y i. placed (near_any paths) y i s.records.entries) (get nat_cmp c.loop-path.places) x has asked (sym c.in_default.ensures.value))
