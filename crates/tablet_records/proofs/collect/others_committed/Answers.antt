use Rattle.std.proofs.Common.{◌&&◌, sym, ap, ◌∙◌}
use Rattle.std.specs.List.{list_any}
use Rattle.std.specs.BTreeMap.{get, is_at}
use Rattle.std.specs.BTreeSet.{contains}
use Rattle.std.specs.Ordering.{nat_cmp}
use Rattle.tablet_records.specs.Committed.{is_committed_other}
use Rattle.tablet_records.proofs.Told.{taken-more, taken-less, taken-end}
use Rattle.tablet_records.proofs.collect.others_committed.Goals as goal

pub loop-txn-preserved-in_ok-insert : goal.loop-txn-preserved-in_ok-insert
loop-txn-preserved-in_ok-insert c = record {
  committed = λ x.
      taken-more (is_committed_other c.args.own (get nat_cmp c.args.firsts.now)) c.in-Some.txn.now c.next.new.self c.loop-txn.txn-iterator x
      (contains nat_cmp c.loop-txn.txns x) (contains nat_cmp c.insert.new.self x) c.in-Some.ensures.steps
      (sym c.is_committed_other.ensures ∙ c.if-is_committed_other.true) (c.in_ok-insert.ensures.updates.0 x)
      ∙ c.loop-txn.invariant.committed x;
  ordered = c.in_ok-insert.ensures.ordered;
}

pub loop-txn-preserved : goal.loop-txn-preserved
loop-txn-preserved c = record {
  committed = λ x.
      taken-less (is_committed_other c.args.own (get nat_cmp c.args.firsts.now)) c.in-Some.txn.now c.next.new.self c.loop-txn.txn-iterator x
      (contains nat_cmp c.loop-txn.txns x) c.in-Some.ensures.steps (sym c.is_committed_other.ensures ∙ c.if-is_committed_other.false)
      ∙ c.loop-txn.invariant.committed x;
  ordered = c.loop-txn.invariant.ordered;
}

pub returns-clause-committed : goal.returns-clause-committed
returns-clause-committed c = λ x.
    let firsts = get nat_cmp c.args.firsts.now in
    taken-end c.args.own firsts c.loop-txn.txn-iterator x (contains nat_cmp c.loop-txn.txns x) c.in-None.ensures.steps.0
    (c.loop-txn.invariant.committed x
    ∙ ap (λ b. b && is_committed_other c.args.own firsts x) (ap (list_any (is_at (nat_cmp x))) (sym c.keys-txn-items.ensures.rest) ∙ sym (c.keys-txn-items.ensures.has x)))
