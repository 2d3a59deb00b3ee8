use Rattle.std.proofs.Common.{ℕ, ◌∷◌, subst, sym}
use Rattle.txn_data.specs.declared.actor.Actor.TheVariants.{Session}
use Rattle.txn_types.specs.History.{own}
use Rattle.txn_types.specs.Run.{flight, flight_after}
use Rattle.world_movers.specs.Asked.{AskedAt}
use Rattle.world_movers.proofs.Entries.{asked_more, flight_more, own_more}
use Rattle.world_movers.proofs.Seated.{session_at, left_at}
use Rattle.world_movers.proofs.session_slot.SessionSlot.next.Goals as goal

pub returns-clause-some : goal.returns-clause-some
returns-clause-some c = λ config i given all h stands here.
    let a = Session i in
    let s = c.args.self.now in
    let e = c.in_ok-step.step.entry in
    let step = c.in_ok-step.ensures.some config i given all (own a h) (flight a h) stands.seat in
    let own_is = own_more a e h step.0.actor in
    let flight_is = flight_more a e h step.0.actor in
    let seat = session_at config i given all (e ∷ own a h) (own a (e ∷ h)) (flight_after a (flight a h) a e.event) (flight a (e ∷ h)) c.next.new.self own_is flight_is step.1 in (
      step.0,
      record {
        seat = seat;
        asked = subst (λ (n : ℕ). AskedAt (e ∷ h) n (flight a (e ∷ h))) (sym c.place_after-self.ensures) (asked_more a e h c.args.at s.asked step.0.actor here stands.asked);
        left = c.left-self.ensures config i given all (own a (e ∷ h)) (flight a (e ∷ h)) seat;
      },
    )
