use Rattle.std.proofs.Common.{[], refl}
use Rattle.txn_data.specs.declared.actor.Actor.TheVariants.{Applier}
use Rattle.txn_types.specs.Run.{Quiet, flight}
use Rattle.world_movers.proofs.Entries.{flight_first, none_quiet}
use Rattle.world_movers.proofs.Seated.{applier_at}
use Rattle.world_movers.proofs.applier_slot.ApplierSlot.open.Goals as goal

pub returns : goal.returns
returns c = λ config there passes.
    let k = c.args.tablet in
    let a = Applier k in
    record {
      seat = applier_at config k [] [] Quiet (flight a []) c.open.result refl (flight_first a) (c.open.ensures config there passes);
      asked = none_quiet [] 0 (flight a []) (flight_first a);
    }
