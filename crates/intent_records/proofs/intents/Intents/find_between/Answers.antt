use Rattle.std.proofs.Common.{◌||◌, sym, ap, ◌∙◌}
use Rattle.std.specs.Option.{option_copied}
use Rattle.std.specs.BTreeSet.{contains}
use Rattle.std.specs.Ordering.{nat_cmp}
use Rattle.std.specs.declared.ops.Bound.TheVariants.{Included}
use Rattle.intent_records.proofs.Hits.{hit-range}
use Rattle.intent_records.proofs.Settled.{got-unsettled, got-settled, got-alike, got-less, got-forward}
use Rattle.intent_records.proofs.intents.Intents.find_between.Goals as goal

pub loop-key-init : goal.loop-key-init
loop-key-init c = record {
  from = Included c.in_ok-first.first;
  rest_is = c.range-records.ensures.between tt;
  tells = λ x.
      ap (λ b. contains nat_cmp c.args.found.now x || b)
      (hit-range c.args.range.now.first c.args.range.now.end c.in_ok-first.first c.in_ok-end.end c.args.asked.now.own c.args.asked.now.until x
      _ c.args.self.now.records.entries c.in_ok-first.ensures c.in_ok-end.ensures (c.range-records.ensures.between tt));
  told_of = λ k is. cc;
}

pub range-records-requires-in-Some : goal.range-records-requires-in-Some
range-records-requires-in-Some c =
    got-forward c.args.asked.now.own c.args.asked.now.until c.in_ok-end.end c.args.self.now.records.entries _ _ _ (c.in-Some.key.now, c.in-Some.record.now) c.next.new.self c.loop-key.records
    c.range-records.ensures.ordered c.in-Some.ensures.steps c.loop-key.invariant
    0xffff_ffff_ffff_ffff c.last_alike.ensures.within c.in_ok-last.last c.in_ok-last.ensures.last c.args.range.now.end c.in_ok-end.ensures

pub loop-key-smaller-in-Some : goal.loop-key-smaller-in-Some
loop-key-smaller-in-Some c =
    got-less c.args.asked.now.own c.args.asked.now.until c.in_ok-end.end c.args.self.now.records.entries _ _ _ (c.in-Some.key.now, c.in-Some.record.now) c.next.new.self c.loop-key.records
    c.range-records.ensures.ordered c.in-Some.ensures.steps c.loop-key.invariant
    0xffff_ffff_ffff_ffff c.last_alike.ensures.within c.in_ok-last.last c.in_ok-last.ensures.last _ (c.range-records-in-Some.ensures.between tt)

pub loop-key-preserved-in-Some : goal.loop-key-preserved-in-Some
loop-key-preserved-in-Some c =
    got-alike c.args.asked.now.own c.args.asked.now.until c.in_ok-end.end c.args.self.now.records.entries _ _ _ (c.in-Some.key.now, c.in-Some.record.now) c.next.new.self c.loop-key.records
    c.range-records.ensures.ordered c.in-Some.ensures.steps c.loop-key.invariant
    0xffff_ffff_ffff_ffff c.last_alike.ensures.within c.in_ok-last.last c.in_ok-last.ensures.last
    c.in-Some-settled.before.now (ap option_copied c.in-Some-settled.is) _ (sym c.is_alike.ensures ∙ c.if-is_alike.true) _ (c.range-records-in-Some.ensures.between tt)

pub loop-key-preserved-then-settles : goal.loop-key-preserved-then-settles
loop-key-preserved-then-settles c =
    got-settled c.args.asked.now.own c.args.asked.now.until c.in_ok-end.end c.args.self.now.records.entries _ _ _ (c.in-Some.key.now, c.in-Some.record.now) c.next.new.self c.loop-key.records
    c.range-records.ensures.ordered c.in-Some.ensures.steps c.loop-key.invariant
    (sym c.settles.ensures ∙ c.if-settles.true) _ c.in_ok-add_to.ensures

pub loop-key-preserved : goal.loop-key-preserved
loop-key-preserved c =
    got-unsettled c.args.asked.now.own c.args.asked.now.until c.in_ok-end.end c.args.self.now.records.entries _ _ _ (c.in-Some.key.now, c.in-Some.record.now) c.next.new.self c.loop-key.records
    c.range-records.ensures.ordered c.in-Some.ensures.steps c.loop-key.invariant
    (sym c.settles.ensures ∙ c.if-settles.false)
