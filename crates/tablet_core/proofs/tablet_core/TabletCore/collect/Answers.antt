use Rattle.std.proofs.Common.{None, refl}
use Rattle.txn_data.specs.declared.request.Request.TheVariants as request
use Rattle.tablet_core.proofs.tablet_core.TabletCore.collect.Goals as goal

pub returns-clause-serves : goal.returns-clause-serves
returns-clause-serves g c = c.perform.ensures.performs c.args._from None (request.Collect c.args.own c.args.kind c.args.paths.now c.args.t c.args.window c.args.fates.now) (tt, tt, refl) c.decide_collect-decided.ensures.says
