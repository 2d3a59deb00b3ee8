use Rattle.std.proofs.Common.{refl, ap, sym, subst}
use Rattle.txn_data.specs.declared.actor.Actor.TheVariants.{Session}
use Rattle.txn_types.specs.Run.{mover_at, flight_after}
use Rattle.txn_types.specs.Script.{lines}
use Rattle.mover_seat.specs.NextEvent.{session_event}
use Rattle.mover_seat.specs.Session.{HasCome}
use Rattle.mover_seat.specs.declared.stage.Stage.{Stage}
use Rattle.mover_seat.proofs.Own.{step_is, waiting_more}
use Rattle.mover_seat.proofs.Sessions.{come_more, entry_by}
use Rattle.mover_seat.proofs.session_seat.SessionSeat.next.Goals as goal

pub returns-in_err-made-clause-none : goal.returns-in_err-made-clause-none
returns-in_err-made-clause-none c = λ config i given all g f stands none.
    let s = c.args.self.now in
    let begun = lines (Session i) g in
    let m = mover_at config (Session i) g in
    let A : Stage → Type 0 = λ at. HasCome config i given all begun m f s.core s.lines at in
    let B : Stage → Type 0 = λ at. HasCome config i given all begun m f c.next_of.new.core c.next_of.new.lines at in
    let over = c.in_err-made.ensures.none config i given all begun m f (subst A (sym c.replace-stage.ensures.value) stands.come) refl in
    (over.0, record { session = stands.session; come = subst B (sym c.replace-stage.ensures.after) over.1; waiting = stands.waiting })

pub returns-clause-some : goal.returns-clause-some
returns-clause-some c = λ config i given all g f stands.
    let s = c.args.self.now in
    let a = Session i in
    let begun = lines a g in
    let m = mover_at config a g in
    let made = c.in_ok-made.made in
    let A : Stage → Type 0 = λ at. HasCome config i given all begun m f s.core s.lines at in
    let comes = c.in_ok-made.ensures.some config i given all begun m f (subst A (sym c.replace-stage.ensures.value) stands.come) in (
      step_is config a (Session s.session) (session_event given all config i g f) c.args.reading g f made (ap Session stands.session) stands.waiting comes.0,
      record {
        session = stands.session;
        come = come_more config i s.session given all g (flight_after a f a made.event) c.next_of.new.core c.next_of.new.lines made stands.session comes.1;
        waiting = waiting_more config a m f (entry_by s.session made) g stands.waiting comes.0.may;
      },
    )
