use Rattle.std.proofs.Common.{refl, ap}
use Rattle.txn_data.specs.declared.actor.Actor.TheVariants.{Session}
use Rattle.mover_seat.proofs.Own.{waits_first}
use Rattle.mover_seat.proofs.Sessions.{none_come}
use Rattle.mover_seat.proofs.session_seat.SessionSeat.open.Goals as goal

pub returns-clause-stands : goal.returns-clause-stands
returns-clause-stands c = λ session.
    let core = c.in-Ok.core in
    let opened = c.in-Ok.ensures in
    let lines = c.new.ensures in
    let config = c.args.config.now in
    record {
      session = refl;
      come = none_come config c.args.session core c.new.result (opened.of config refl refl) (ap Session opened.named.0) session opened.commands (opened.mover config) lines.finished lines.ended lines.left;
      waiting = waits_first;
    }
