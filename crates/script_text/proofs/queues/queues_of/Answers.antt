use Rattle.std.proofs.Common.{◌≡◌, ◌∙◌, ◌≤◌, ◌-◌, ℕ, arith, refl, sym, ap, subst, drop, rules}
use Rattle.txn_data.specs.declared.session_plan.SessionPlan.{SessionPlan}
use Rattle.txn_types.specs.Script.{commands_of}
use Rattle.script_text.proofs.Queueing.{none_behind, one_behind}
use Rattle.script_text.proofs.queues.queues_of.Goals as goal

pub loop-at-init : goal.loop-at-init
loop-at-init c = record {
  within = omega arith;
  room = c.in_ok-queues.ensures.len;
  each = none_behind c.args.plans.now c.in_ok-queues.queues.items 1001 _ (c.in_ok-queues.ensures.items_if_clones_equal (λ y h. search rules)) refl;
}

pub loop-at-preserved : goal.loop-at-preserved
loop-at-preserved c =
    let plans = c.args.plans.now in
    let p = c.index-plans-at.result in
    record {
      within = omega (arith, c.loop-at.invariant.within);
      room = c.loop-at.invariant.room;
      each = one_behind plans c.loop-at.queues.items c.loop-at.at p c.items.result c.loop-at-test.true c.loop-at.invariant.within c.index-plans-at.is c.items.ensures
          (omega (arith, c.loop-at.queues.ok.0, c.loop-at.invariant.room)) (subst (λ (x : SessionPlan). x.session ≤ 1000) (sym c.index-plans-at.is) (c.requires (c.loop-at.at - 1) p (omega (arith, c.loop-at.invariant.within, c.loop-at-test.true)))) c.loop-at.invariant.each;
    }

pub returns-clause-each : goal.returns-clause-each
returns-clause-each c = λ i le.
    let none : c.loop-at.at ≡ 0 = omega (arith, c.loop-at-test.false) in
    c.loop-at.invariant.each i le ∙ ap (λ (n : ℕ). commands_of i (drop n c.args.plans.now)) none
