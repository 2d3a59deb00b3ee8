use Rattle.std.proofs.Common.{ℕ, false, None, refl, rules, sym, ap, ◌∙◌}
use Rattle.txn_data.specs.declared.reply.Reply.TheVariants as reply
use Rattle.txn_data.specs.declared.request.Request.TheVariants as request
use Rattle.txn_types.specs.Tablet.{provisional, versions, listed, local_limit}
use Rattle.tablet_core.proofs.Says.{stepped_decided}
use Rattle.tablet_core.proofs.tablet_core.TabletCore.decide_list_read.Goals as goal

pub returns-in_ok-others-in-Ok : goal.returns-in_ok-others-in-Ok
returns-in_ok-others-in-Ok g c =
    rw (← c.self.view_is) (stepped_decided g.V.Versions.holds _ g.V.Versions.fits c.it_is_the_clock_of_the_tables.ensures c.args.reading c.args.t false c.in-Ok.step (search rules)
    (request.ListRead c.args.own c.args.paths.now c.args.t c.args.g c.args.limit) None
    (λ h now. listed c.args.own c.args.paths.now c.args.t (local_limit c.args.limit now c.args.g) (provisional h))
    (reply.Listed c.local_limit-limit.result c.in_ok-others-in-Ok.others) (record { spelled = tt; fit = tt }) tt tt tt refl
    (λ h kept. ap (λ (l : ℕ). listed c.args.own c.args.paths.now c.args.t l (provisional h)) (sym c.local_limit-limit.ensures)
    ∙ sym (c.in_ok-others-in-Ok.ensures (provisional h) (versions h) kept))
    (λ h kept fails. refl)
    (search rules))
