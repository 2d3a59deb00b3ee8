use Rattle.std.proofs.Common.{◌∷◌, ◌++◌, sym, ap, subst, ◌∙◌}
use Rattle.txn_data.specs.declared.actor.Actor.TheVariants.{Session}
use Rattle.txn_data.specs.declared.event.Event.{Event}
use Rattle.txn_types.specs.Run.{Flight, Mover, IsUnderWay, Quiet, Answered, mover_at, mover_after, flight_after}
use Rattle.txn_types.specs.Script.{lines, line_by}
use Rattle.mover_seat.specs.NextEvent.{session_event}
use Rattle.mover_seat.specs.Session.{HasCome}
use Rattle.mover_seat.specs.Stage.{is_waiting}
use Rattle.mover_seat.specs.declared.stage.Stage.{Stage}
use Rattle.mover_seat.proofs.Own.{lost_reply, memory_is, mover_more, only_hears, waiting_more, waits_asked}
use Rattle.mover_seat.proofs.Sessions.{come_more, entry_by, flight_heard, reply_comes, under_way_left}
use Rattle.mover_seat.proofs.session_seat.SessionSeat.lost.Goals as goal

pub returns-clause-step : goal.returns-clause-step
returns-clause-step c = λ config i given all g f to stands goes.
    let s = c.args.self.now in
    let a = Session i in
    let begun = lines a g in
    let m = mover_at config a g in
    let made = c.hear-made.result in
    let came = Answered to lost_reply in
    let e = entry_by s.session made in
    let A : Stage → Type 0 = λ at. HasCome config i given all begun m f s.core s.lines at in
    let there = subst A c.in-Awaits.is stands.come in
    let comes = c.hear-made.ensures.come config i given all begun m came s.lines 0 (reply_comes config i given all begun m f s.core s.lines c.in-Awaits.to to lost_reply there goes) in
    let waiting = stands.waiting ∙ waits_asked f to goes in
    let heard = only_hears config a m to lost_reply made.reading made.event comes.0.may in
    let quiet = ap (λ (x : Event). flight_after a came a x) heard.1 ∙ flight_heard a to lost_reply came in
    let B : Flight → Type 0 = λ x. HasCome config i given all (begun ++ line_by made.event) (mover_after config a m made.reading made.event) x c.hear-made.new.core s.lines made.stage in
    let left = under_way_left given all begun m f there.stage.0 in (
      memory_is config a (Session s.session) (session_event given all config i g f) (session_event given all config i g came) 0 g to made (ap Session stands.session) left waiting comes.0,
      record {
        session = stands.session;
        come = come_more config i s.session given all g Quiet c.hear-made.new.core s.lines made stands.session (subst B quiet comes.1);
        waiting = waiting_more config a m came e g waiting comes.0.may ∙ ap is_waiting quiet;
      },
    )

pub returns-clause-left : goal.returns-clause-left
returns-clause-left c = λ config i given all g f to stands goes.
    let s = c.args.self.now in
    let a = Session i in
    let begun = lines a g in
    let m = mover_at config a g in
    let made = c.hear-made.result in
    let e = entry_by s.session made in
    let A : Stage → Type 0 = λ at. HasCome config i given all begun m f s.core s.lines at in
    let there = subst A c.in-Awaits.is stands.come in
    let comes = c.hear-made.ensures.come config i given all begun m (Answered to lost_reply) s.lines 0 (reply_comes config i given all begun m f s.core s.lines c.in-Awaits.to to lost_reply there goes) in
    let heard = only_hears config a m to lost_reply made.reading made.event comes.0.may in
    let under = subst (λ (x : Event). IsUnderWay (mover_after config a m made.reading x).line) (sym heard.1) there.stage.0 in
    let after = subst (λ (x : Mover). IsUnderWay x.line) (sym (mover_more config a e g (ap Session stands.session))) under in
    under_way_left given all (lines a (e ∷ g)) (mover_at config a (e ∷ g)) Quiet after
