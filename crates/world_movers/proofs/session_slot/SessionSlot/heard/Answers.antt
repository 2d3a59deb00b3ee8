use Rattle.std.proofs.Common.{◌∷◌, sym, ◌∙◌}
use Rattle.txn_data.specs.declared.actor.Actor.TheVariants.{Session}
use Rattle.txn_types.specs.History.{own}
use Rattle.txn_types.specs.Run.{Answered, flight}
use Rattle.world_movers.proofs.Entries.{none_asked, own_served, session_moves}
use Rattle.world_movers.proofs.Seated.{session_at, left_at}
use Rattle.world_movers.proofs.session_slot.SessionSlot.heard.Goals as goal

pub returns-clause-stands : goal.returns-clause-stands
returns-clause-stands c = λ config i given all h e stands is.
    let a = Session i in
    let r = c.args.reply in
    let s = c.args.self.now in
    let own_is = own_served config h a r e (session_moves i) is in
    let left = c.heard.ensures.left config i given all (own a h) (flight a h) e.actor stands.seat is.asked in
    record {
      seat = session_at config i given all (own a h) (own a (e ∷ h)) (Answered e.actor r) (flight a (e ∷ h)) c.heard.new.self own_is is.answered (c.heard.ensures.stands config i given all (own a h) (flight a h) e.actor stands.seat is.asked);
      asked = none_asked (e ∷ h) s.asked (flight a (e ∷ h)) e.actor r is.answered;
      left = stands.left ∙ left.0 ∙ sym left.1 ∙ left_at config i given all (own a h) (own a (e ∷ h)) (Answered e.actor r) (flight a (e ∷ h)) own_is is.answered;
    }
