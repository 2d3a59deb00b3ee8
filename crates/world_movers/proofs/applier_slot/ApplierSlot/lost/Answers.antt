use Rattle.std.proofs.Common.{◌∷◌}
use Rattle.txn_data.specs.declared.actor.Actor.TheVariants.{Applier}
use Rattle.txn_types.specs.History.{own}
use Rattle.txn_types.specs.Run.{Quiet, flight}
use Rattle.world_movers.proofs.Entries.{flight_lost, none_quiet, own_more}
use Rattle.world_movers.proofs.Seated.{applier_at}
use Rattle.world_movers.proofs.applier_slot.ApplierSlot.lost.Goals as goal

pub returns : goal.returns
returns c = λ config k h to done stands goes.
    let a = Applier k in
    let e = c.lost.result.entry in
    let step = c.lost.ensures config k (own a h) (flight a h) to done stands.seat goes in
    let quiet = flight_lost a e h to step.0.actor step.0.hears in (
      step.0,
      record {
        seat = applier_at config k (e ∷ own a h) (own a (e ∷ h)) Quiet (flight a (e ∷ h)) c.lost.new.self (own_more a e h step.0.actor) quiet step.1;
        asked = none_quiet (e ∷ h) c.args.self.now.asked (flight a (e ∷ h)) quiet;
      },
    )
