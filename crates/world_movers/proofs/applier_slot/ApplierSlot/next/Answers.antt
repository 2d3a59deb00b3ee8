use Rattle.std.proofs.Common.{ℕ, ◌∷◌, subst, sym, refl}
use Rattle.txn_data.specs.declared.actor.Actor.TheVariants.{Applier}
use Rattle.txn_types.specs.History.{own}
use Rattle.txn_types.specs.Run.{flight, flight_after}
use Rattle.world_movers.specs.Asked.{AskedAt}
use Rattle.world_movers.proofs.Entries.{asked_more, flight_more, own_more}
use Rattle.world_movers.proofs.Seated.{applier_at}
use Rattle.world_movers.proofs.applier_slot.ApplierSlot.next.Goals as goal

pub returns-in_err-step-clause-none : goal.returns-in_err-step-clause-none
returns-in_err-step-clause-none c = λ config k h stands none.
    let over = c.in_err-step.ensures.none config k (own (Applier k) h) (flight (Applier k) h) stands.seat refl in
    (over.0, record { seat = over.1; asked = stands.asked })

pub returns-clause-some : goal.returns-clause-some
returns-clause-some c = λ config k h stands here.
    let a = Applier k in
    let e = c.in_ok-step.step.entry in
    let step = c.in_ok-step.ensures.some config k (own a h) (flight a h) stands.seat in
    let mine = (step 0).0.actor in
    λ reading. (
      (step reading).0,
      record {
        seat = applier_at config k (e ∷ own a h) (own a (e ∷ h)) (flight_after a (flight a h) a e.event) (flight a (e ∷ h)) c.next.new.self (own_more a e h mine) (flight_more a e h mine) (step reading).1;
        asked = subst (λ (n : ℕ). AskedAt (e ∷ h) n (flight a (e ∷ h))) (sym c.place_after-self.ensures) (asked_more a e h c.args.at c.args.self.now.asked mine here stands.asked);
      },
    )
