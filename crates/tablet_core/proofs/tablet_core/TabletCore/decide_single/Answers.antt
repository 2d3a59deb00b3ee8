use Rattle.std.proofs.Common.{◌≡◌, ℕ, true, Option, Some, None, Ok, refl, rules, sym, ap, ◌∙◌}
use Rattle.std.specs.Prelude.{max}
use Rattle.txn_data.specs.declared.reply.Reply.TheVariants as reply
use Rattle.txn_data.specs.declared.request.Request.TheVariants as request
use Rattle.txn_types.specs.Clock.{timed, Own}
use Rattle.txn_types.specs.Tablet.{provisional, versions, conflict, greatest_fate, write_answer}
use Rattle.log_record.specs.declared.log_record.LogRecord.TheVariants as log_record
use Rattle.safe_time.specs.ActorClock.{served}
use Rattle.tablet_core.proofs.Says.{stepped_decided}
use Rattle.tablet_core.proofs.tablet_core.TabletCore.decide_single.Goals as goal

pub returns-in_ok-single_record-in-Ok : goal.returns-in_ok-single_record-in-Ok
returns-in_ok-single_record-in-Ok g c =
    let floor : ℕ = max c.args.seen (greatest_fate c.args.fates.now c.args.fates.now) in
    let stepped : served c.self.inside.log.clock c.args.reading c.single_floor.result true ≡ Ok c.in-Ok.step = search rules in
    rw (c.in_ok-single_record-in-Ok.ensures, ← c.self.view_is)
    (stepped_decided g.V.Versions.holds _ g.V.Versions.fits c.it_is_the_clock_of_the_tables.ensures c.args.reading floor true c.in-Ok.step
    (ap (λ (f : ℕ). served c.self.inside.log.clock c.args.reading f true) (sym c.single_floor.ensures) ∙ stepped)
    (request.Single c.args.txn c.args.path.now c.args.op.now c.args.seen c.args.fates.now)
    (Some (log_record.Single c.args.txn c.in-Ok.step.time c.args.path.now c.args.op.now))
    (λ h w. reply.SingleDone w) (reply.SingleDone c.in-Ok.step.time) (record { spelled = c.requires.spelled; fit = c.requires.fits }) tt tt tt refl (λ h kept. refl)
    (λ h kept fails.
    let other = c.in_ok-conflict.ensures (provisional h) (versions h) kept in
    let none : conflict c.args.txn c.args.path.now c.args.fates.now (provisional h) ≡ None = cc in
    ap (λ (o : Option ℕ). write_answer o None (timed c.self.inside.log.clock.lease h fails Own floor c.args.reading true (λ w. reply.SingleDone w))) none)
    (search rules))
