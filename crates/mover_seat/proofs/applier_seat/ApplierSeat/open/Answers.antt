use Rattle.std.proofs.Common.{refl, sym, ap}
use Rattle.std.specs.Prelude.{length}
use Rattle.txn_data.specs.declared.actor.Actor.TheVariants.{Applier}
use Rattle.mover_seat.proofs.Own.{lines_first, waits_first}
use Rattle.mover_seat.proofs.Passes.{none_come}
use Rattle.mover_seat.proofs.applier_seat.ApplierSeat.open.Goals as goal

pub returns : goal.returns
returns c = λ config there passes. record {
  tablet = refl;
  passes = passes;
  begun = sym (ap length (lines_first (Applier c.args.tablet)));
  come = none_come config c.args.tablet there;
  waiting = waits_first;
}
