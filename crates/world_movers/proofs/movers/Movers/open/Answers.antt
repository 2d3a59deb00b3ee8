use Rattle.std.proofs.Common.{◌≡◌, ◌<◌, ◌+◌, ◌∷◌, ◌++◌, List, ℕ, true, [], get_or, length, take, refl, sym, ap, subst, ◌∙◌, arith}
use Rattle.std.proofs.lemmas.List.{take_more}
use Rattle.txn_data.specs.declared.session_plan.SessionPlan.{SessionPlan}
use Rattle.txn_types.specs.Plan.{AreRising}
use Rattle.world_movers.specs.Sessions.{SessionsStand}
use Rattle.world_movers.proofs.Seating.{rise_front}
use Rattle.world_movers.proofs.movers.Movers.open.Goals as goal

pub loop-one-preserved : goal.loop-one-preserved
loop-one-preserved c =
    let config = c.args.config.now in
    let plans = c.items-one-items.result.now in
    let k = c.loop-one.one-index in
    let p = c.one-item.result in
    let within : k < length plans = omega (arith, c.loop-one-test.true) in
    let more : take k plans ++ p ∷ [] ≡ take (k + 1) plans = ap (λ (x : SessionPlan). take k plans ++ x ∷ []) c.one-item.is ∙ sym (take_more plans k p within) in
    let rising : AreRising (take k plans ++ p ∷ []) = subst AreRising (sym more) (rise_front (k + 1) plans (subst AreRising (sym c.items-one-items.ensures) c.requires.plan.rising)) in
    subst (λ (ps : List SessionPlan). SessionsStand config (record { sessions = ps; all = true }) [] c.seat.new.self) more (c.in_ok-seat.ensures.ok (record { sessions = take k plans; all = true }) refl rising c.loop-one.invariant)
