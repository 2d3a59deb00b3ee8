use Rattle.std.proofs.Common.{◌∷◌}
use Rattle.txn_data.specs.declared.actor.Actor.TheVariants.{Applier}
use Rattle.txn_types.specs.History.{own}
use Rattle.txn_types.specs.Run.{Answered, flight}
use Rattle.world_movers.proofs.Entries.{none_asked, own_served, applier_moves}
use Rattle.world_movers.proofs.Seated.{applier_at}
use Rattle.world_movers.proofs.applier_slot.ApplierSlot.heard.Goals as goal

pub returns : goal.returns
returns c = λ config k h e stands is.
    let a = Applier k in
    let r = c.args.reply in
    let own_is = own_served config h a r e (applier_moves k) is in
    record {
      seat = applier_at config k (own a h) (own a (e ∷ h)) (Answered e.actor r) (flight a (e ∷ h)) c.heard.new.self own_is is.answered (c.heard.ensures.stands config k (own a h) (flight a h) e.actor stands.seat is.asked);
      asked = none_asked (e ∷ h) c.args.self.now.asked (flight a (e ∷ h)) e.actor r is.answered;
    }
