use Rattle.std.proofs.Common.{◌∙◌}
use Rattle.std.specs.BTreeMap.{get}
use Rattle.std.specs.Ordering.{nat_cmp}
use Rattle.intent_records.proofs.Places.{asked-more, nothing-more}
use Rattle.intent_records.proofs.related.no_places.Goals as goal

pub loop-txn-preserved-in_ok-insert : goal.loop-txn-preserved-in_ok-insert
loop-txn-preserved-in_ok-insert c =
    let before = get nat_cmp c.loop-txn.places in
    let after = get nat_cmp c.insert.new.self in
    record {
      asks = λ x.
          asked-more before after c.in-Some.txn.now c.new.result c.next.new.self c.loop-txn.txn-iterator x c.in-Some.ensures.steps (c.in_ok-insert.ensures.updates.0 x)
          ∙ c.loop-txn.invariant.asks x;
      has = λ x i. nothing-more before after c.in-Some.txn.now c.new.result x i c.new.ensures.empty (c.in_ok-insert.ensures.updates.0 x) (c.loop-txn.invariant.has x i);
    }

pub loop-txn-preserved : goal.loop-txn-preserved
loop-txn-preserved c =
    let before = get nat_cmp c.loop-txn.places in
    let after = get nat_cmp c.insert.new.self in
    record {
      asks = λ x.
          asked-more before after c.in-Some.txn.now c.new.result c.next.new.self c.loop-txn.txn-iterator x c.in-Some.ensures.steps (c.in_ok-insert.ensures.updates.0 x)
          ∙ c.loop-txn.invariant.asks x;
      has = λ x i. nothing-more before after c.in-Some.txn.now c.new.result x i c.new.ensures.empty (c.in_ok-insert.ensures.updates.0 x) (c.loop-txn.invariant.has x i);
    }
