use Rattle.std.proofs.Common.{◌≡◌, Bool, true, false, cond, Some, refl, rules, sym, ap, ◌∙◌}
use Rattle.txn_data.specs.declared.reply.Reply.TheVariants as reply
use Rattle.txn_data.specs.declared.request.Request.TheVariants as request
use Rattle.txn_types.specs.Clock.{timed, told_only, Floor}
use Rattle.txn_types.specs.Tablet.{provisional, versions}
use Rattle.log_record.specs.declared.log_record.LogRecord.TheVariants as log_record
use Rattle.tablet_core.proofs.Says.{stepped_decided}
use Rattle.tablet_core.proofs.tablet_core.TabletCore.decide_apply.Goals as goal

pub returns-in-Ok : goal.returns-in-Ok
returns-in-Ok g c =
    let some : c.has_any.result ≡ true = search rules in
    rw (← c.self.view_is) (stepped_decided g.V.Versions.holds _ g.V.Versions.fits c.it_is_the_clock_of_the_tables.ensures c.args.reading c.args.at false c.in-Ok.step (search rules)
    (request.Apply c.args.txn c.args.at) (Some (log_record.Apply c.args.txn c.args.at)) (λ h now. reply.AppliedHere) reply.AppliedHere (record { spelled = refl; fit = tt }) tt tt tt refl (λ h kept. refl)
    (λ h kept fails. ap (λ (b : Bool). cond b (timed c.self.inside.log.clock.lease h fails Floor c.args.at c.args.reading true (λ now. reply.AppliedHere)) (told_only reply.AppliedHere))
    (sym (c.has_any.ensures (provisional h) (versions h) kept) ∙ some))
    (search rules))
