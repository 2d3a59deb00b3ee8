use Rattle.std.proofs.lemmas.Result.{on_ok_weaker}
use Rattle.report_text.proofs.Walks.{saw_session, saw_applier, saw_machine}
use Rattle.report_text.proofs.seen.Seen.take.Goals as goal

pub returns-in_ok-self-in-Session : goal.returns-in_ok-self-in-Session
returns-in_ok-self-in-Session c = λ config h s.
    let old = c.args.self.now in
    on_ok_weaker c.take_session.result
    (λ changed. saw_session config h c.args.entry.now c.in-Session.session old.sessions.items c.take_session.new.sessions.items old.passes.items old.counts c.in_ok-self-in-Session.field-0
    c.in-Session.is s changed c.in_ok-self-in-Session.ensures)
    c.take_session.ensures

pub returns-in-Applier : goal.returns-in-Applier
returns-in-Applier c = λ config h s.
    let old = c.args.self.now in
    saw_applier config h c.args.entry.now c.in-Applier.tablet old.sessions.items old.passes.items c.take_pass.new.passes.items old.counts c.in-Applier.is s c.take_pass.ensures

pub returns-in-Tablet : goal.returns-in-Tablet
returns-in-Tablet c = λ config h s.
    let old = c.args.self.now in
    saw_machine config h c.args.entry.now old.sessions.items old.passes.items old.counts c.in-Tablet.is s
