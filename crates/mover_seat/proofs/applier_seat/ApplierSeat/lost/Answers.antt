use Rattle.std.proofs.Common.{sym, ap, subst, ◌∙◌}
use Rattle.txn_data.specs.declared.actor.Actor.TheVariants.{Applier}
use Rattle.txn_data.specs.declared.event.Event.{Event}
use Rattle.txn_types.specs.Run.{Flight, Quiet, Answered, mover_at, mover_after, flight_after}
use Rattle.txn_types.specs.Script.{started}
use Rattle.mover_seat.specs.NextEvent.{applier_event}
use Rattle.mover_seat.specs.Pass.{HasCome}
use Rattle.mover_seat.specs.Stage.{is_waiting}
use Rattle.mover_seat.specs.declared.stage.Stage.{Stage}
use Rattle.mover_seat.proofs.Own.{lost_reply, memory_is, only_hears, waiting_more, waits_asked}
use Rattle.mover_seat.proofs.Passes.{begun_more, come_more, entry_by, reply_pass, under_way_pass}
use Rattle.mover_seat.proofs.Sessions.{flight_heard}
use Rattle.mover_seat.proofs.applier_seat.ApplierSeat.lost.Goals as goal

pub returns : goal.returns
returns c = λ config k g f to done stands goes.
    let s = c.args.self.now in
    let a = Applier k in
    let m = mover_at config a g in
    let made = c.hear-made.result in
    let pass = c.hear-made.new.pass in
    let came = Answered to lost_reply in
    let A : Stage → Type 0 = λ at. HasCome config k s.begun m f s.pass at in
    let there = subst A c.in-Awaits.is stands.come in
    let comes = c.hear-made.ensures.come config k s.begun done m came (reply_pass config k s.begun m f s.pass c.in-Awaits.to to lost_reply there goes) in
    let makes = comes.0 0 in
    let waiting = stands.waiting ∙ waits_asked f to goes in
    let heard = only_hears config a m to lost_reply made.reading made.event makes.may in
    let quiet = ap (λ (x : Event). flight_after a came a x) heard.1 ∙ flight_heard a to lost_reply came in
    let B : Flight → Type 0 = λ x. HasCome config k s.begun (mover_after config a m made.reading made.event) x pass made.stage in
    let left = under_way_pass done config.passes k (started a g) m f there.stage.0 in (
      memory_is config a (Applier s.tablet) (applier_event done config k g f) _ 0 g to made (ap Applier stands.tablet) left waiting makes,
      record {
        tablet = stands.tablet;
        passes = stands.passes;
        begun = begun_more k s.tablet s.begun s.begun g made stands.tablet stands.begun comes.2;
        come = come_more config k s.tablet s.begun g Quiet pass made stands.tablet (subst B quiet comes.1);
        waiting = waiting_more config a m came (entry_by s.tablet made) g waiting makes.may ∙ ap is_waiting quiet;
      },
    )
