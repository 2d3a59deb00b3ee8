use Rattle.std.proofs.Common.{None, refl, sym, ap, rules}
use Rattle.txn_data.specs.declared.request.Request.TheVariants as request
use Rattle.txn_types.specs.Clock.{told_only}
use Rattle.txn_types.specs.Tablet.{provisional, versions}
use Rattle.tablet_core.proofs.Says.{told_decided, read_told}
use Rattle.tablet_core.proofs.tablet_core.TabletCore.decide_collect.Goals as goal

pub returns : goal.returns
returns g c = rw (c.tell.ensures, ← c.self.view_is) (told_decided g.V.Versions.holds _ g.V.Versions.fits None (request.Collect c.args.own c.args.kind c.args.paths.now c.args.t c.args.window c.args.fates.now)
    c.in_ok-reply.reply tt (read_told c.in_ok-reply.reply c.in_ok-reply.ensures.kind) refl
    (λ h kept fails. ap told_only (sym (c.in_ok-reply.ensures.reply (provisional h) (versions h) kept))) (search rules))
