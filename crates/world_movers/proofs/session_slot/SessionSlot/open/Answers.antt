use Rattle.std.proofs.Common.{false, [], refl, ◌∙◌}
use Rattle.txn_data.specs.declared.actor.Actor.TheVariants.{Session}
use Rattle.txn_types.specs.Run.{Quiet, flight}
use Rattle.world_movers.proofs.Entries.{flight_first, none_quiet}
use Rattle.world_movers.proofs.Seated.{session_at, left_at}
use Rattle.world_movers.proofs.session_slot.SessionSlot.open.Goals as goal

pub returns-clause-stands : goal.returns-clause-stands
returns-clause-stands c = λ is.
    let config = c.args.config.now in
    let i = c.args.session in
    let a = Session i in
    let stands = c.open-seat.ensures.stands is in
    record {
      seat = session_at config i [] false [] [] Quiet (flight a []) c.open-seat.result refl (flight_first a) stands;
      asked = none_quiet [] 0 (flight a []) (flight_first a);
      left = c.left-left.ensures config i [] false [] Quiet stands ∙ left_at config i [] false [] [] Quiet (flight a []) refl (flight_first a);
    }
