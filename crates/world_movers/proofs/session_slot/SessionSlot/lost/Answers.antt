use Rattle.std.proofs.Common.{◌∷◌, sym, ap, ◌∙◌}
use Rattle.txn_data.specs.declared.actor.Actor.TheVariants.{Session}
use Rattle.txn_data.specs.declared.event.Event.{Event}
use Rattle.txn_types.specs.History.{own}
use Rattle.txn_types.specs.Run.{Quiet, flight, flight_after}
use Rattle.world_movers.proofs.Entries.{flight_lost, none_quiet, own_more}
use Rattle.world_movers.proofs.Seated.{session_at, left_at}
use Rattle.world_movers.proofs.session_slot.SessionSlot.lost.Goals as goal

pub returns-clause-stands : goal.returns-clause-stands
returns-clause-stands c = λ config i given all h to stands goes.
    let a = Session i in
    let s = c.args.self.now in
    let e = c.lost.result.entry in
    let step = c.lost.ensures.step config i given all (own a h) (flight a h) to stands.seat goes in
    let own_is = own_more a e h step.0.actor in
    let quiet = flight_lost a e h to step.0.actor step.0.hears in
    let left = c.lost.ensures.left config i given all (own a h) (flight a h) to stands.seat goes in (
      step.0,
      record {
        seat = session_at config i given all (e ∷ own a h) (own a (e ∷ h)) Quiet (flight a (e ∷ h)) c.lost.new.self own_is quiet step.1;
        asked = none_quiet (e ∷ h) s.asked (flight a (e ∷ h)) quiet;
        left = stands.left ∙ step.0.left ∙ sym left ∙ left_at config i given all (e ∷ own a h) (own a (e ∷ h)) Quiet (flight a (e ∷ h)) own_is quiet;
      },
    )
