use Rattle.std.proofs.Common.{true}
use Rattle.txn_data.specs.declared.actor.Actor.TheVariants.{Session}
use Rattle.txn_types.specs.History.{own}
use Rattle.txn_types.specs.Run.{flight}
use Rattle.world_movers.proofs.session_slot.SessionSlot.finish.Goals as goal

pub returns : goal.returns
returns c = λ config i given all h stands.
    let a = Session i in
    let seat = c.finish.ensures.stands config i given all (own a h) (flight a h) stands.seat in
    record { seat = seat; asked = stands.asked; left = c.left-self.ensures config i given true (own a h) (flight a h) seat }
