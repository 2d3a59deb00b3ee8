use Rattle.std.proofs.Common.{◌≡◌, ◌<◌, List, ap, arith, insert, length, subst, sym}
use Rattle.std.proofs.lemmas.List.Sorted.{IsNonDecreasingBy-insert}
use Rattle.std.proofs.lemmas.Result.{on_ok_weaker}
use Rattle.txn_data.specs.declared.session_plan.SessionPlan.{SessionPlan}
use Rattle.script_text.proofs.Telling.{Found, IsNew, Rising, rising_set, tell_before, tell_here, tell_last}
use Rattle.script_text.proofs.said.tell.Goals as goal
use Rattle.script_text.proofs.said.tell.Goals.{else-at-len-via-then-at-len+else-index-session, else-at-len-via-else-at-len}

pub returns-then-index-session-clause-told : goal.returns-then-index-session-clause-told
returns-then-index-session-clause-told c =
    let plans = c.args.plans.now.items in
    let lt : c.place_of-at.result < length plans = omega (arith, c.if-at-len.true, c.len.ensures, c.as_slice.ensures.len, ap length c.as_slice.ensures.value) in
    let f : Found c.args.session c.args.command plans c.as_slice.result.now c.place_of-at.result =
    record { same = c.as_slice.ensures.value; before = c.place_of-at.ensures.before c.args.command } in
    on_ok_weaker c.push.result
    (λ e. rw e (tell_here c.args.session c.args.command plans c.as_slice.result.now c.place_of-at.result c.index_mut-plan.result.now c.index.result.now f lt c.index_mut-plan.ensures.value c.index.ensures c.if-index-session.true))
    c.push.ensures.ok

pub returns-then-index-session-clause-rising : goal.returns-then-index-session-clause-rising
returns-then-index-session-clause-rising c =
    let plans = c.args.plans.now.items in
    let lt : c.place_of-at.result < length plans = omega (arith, c.if-at-len.true, c.len.ensures, c.as_slice.ensures.len, ap length c.as_slice.ensures.value) in
    rising_set plans c.place_of-at.result c.index_mut-plan.result.now c.push.new.self c.requires lt c.index_mut-plan.ensures.value

pub returns-clause-told : goal.returns-clause-told
returns-clause-told c =
    let plans = c.args.plans.now.items in
    let f : Found c.args.session c.args.command plans c.as_slice.result.now c.place_of-at.result =
    record { same = c.as_slice.ensures.value; before = c.place_of-at.ensures.before c.args.command } in
    let n : IsNew c.args.command c.push-2.new.self c.new-commands.result = record { none_is = c.new-commands.ensures; is = c.in_ok-push.ensures.ok } in
    elim c.else-at-len.branch [
      | else-at-len-via-then-at-len+else-index-session w ↦
          let lt : c.place_of-at.result < length plans = omega (arith, w.if-at-len.true, c.len.ensures, c.as_slice.ensures.len, ap length c.as_slice.ensures.value) in
          let here : c.place_of-at.result < length c.as_slice.result.now = omega (arith, lt, ap length c.as_slice.ensures.value) in
          rw c.in_ok-insert.ensures.items (tell_before _ _ plans c.as_slice.result.now _ w.index.result.now _ _ f n lt w.index.ensures
          (c.place_of-at.ensures.at_least _ w.index.result.now (omega arith) here) w.if-index-session.false)
      | else-at-len-via-else-at-len w ↦
          rw c.in_ok-insert.ensures.items (tell_last _ _ plans c.as_slice.result.now _ _ _ f n (omega (arith, w.if-at-len.false, c.len.ensures, c.place_of-at.ensures.within, c.as_slice.ensures.len, ap length c.as_slice.ensures.value)))
    ]

pub returns-clause-rising : goal.returns-clause-rising
returns-clause-rising c =
    let plans = c.args.plans.now.items in
    let at = c.place_of-at.result in
    let same : c.as_slice.result.now ≡ plans = c.as_slice.ensures.value in
    let plan : SessionPlan = record { session = c.args.session; commands = c.push-2.new.self } in
    rw c.in_ok-insert.ensures.items (subst Rising (ap (λ (ps : List SessionPlan). insert ps at plan) same)
    (IsNonDecreasingBy-insert (λ (p : SessionPlan). p.session) c.as_slice.result.now at plan (subst Rising (sym same) c.requires) c.place_of-at.ensures.within
    (λ k d below. omega (arith, c.place_of-at.ensures.below k d (omega arith) below))
    (λ k d from high. c.place_of-at.ensures.at_least k d from high)))
