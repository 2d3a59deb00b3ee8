use Rattle.std.proofs.Common.{◌≡◌, ◌<◌, ◌+◌, ◌∷◌, ◌++◌, Bool, true, List, ℕ, [], refl, subst, sym, ap, ◌∙◌, arith, if◌then◌else◌}
use Rattle.std.specs.Prelude.{is_ok}
use Rattle.world_movers.specs.Slots.{ApplierStands, EachAt}
use Rattle.world_movers.specs.declared.applier_slot.ApplierSlot.{ApplierSlot}
use Rattle.world_movers.proofs.Entries.{silent_first}
use Rattle.world_movers.proofs.Placed.{each_push}
use Rattle.txn_data.specs.declared.actor.Actor.TheVariants.{Applier}
use Rattle.world_movers.proofs.appliers.Appliers.open.Goals as goal

pub loop-tablet-preserved : goal.loop-tablet-preserved
loop-tablet-preserved c =
    let config = c.args.config.now in
    let k = c.loop-tablet.tablet in
    let slot = c.open-slot.result in
    let slots = c.loop-tablet.slots.items in
    let stands : ℕ → ApplierSlot → Type 0 = λ j x. ApplierStands config j [] x in
    let done : is_ok c.push.result ≡ true = ap is_ok c.in_ok-push.was in
    let there : k < config.tablets = omega (arith, c.loop-tablet-test.true) in
    let pushed = subst (λ (b : Bool). c.push.new.self.items ≡ (if b then slots ++ slot ∷ [] else slots)) done c.push.ensures.items in
    subst (λ (xs : List ApplierSlot). EachAt xs (k + 1) stands) (sym pushed)
    (each_push slots k stands stands slot c.loop-tablet.invariant (c.open-slot.ensures config there refl) (λ j x is old. old))

pub returns : goal.returns
returns c =
    let config = c.args.config.now in
    let stands : ℕ → ApplierSlot → Type 0 = λ j x. ApplierStands config j [] x in
    let all : c.loop-tablet.tablet ≡ config.tablets = omega arith in
    record {
      slots = subst (λ (n : ℕ). EachAt c.loop-tablet.slots.items n stands) all c.loop-tablet.invariant;
      others = λ j past. silent_first (Applier j);
    }
