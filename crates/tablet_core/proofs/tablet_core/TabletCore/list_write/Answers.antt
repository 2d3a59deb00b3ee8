use Rattle.std.proofs.Common.{None, refl}
use Rattle.txn_data.specs.declared.request.Request.TheVariants as request
use Rattle.tablet_core.proofs.tablet_core.TabletCore.list_write.Goals as goal

pub returns-clause-serves : goal.returns-clause-serves
returns-clause-serves g c = c.perform.ensures.performs c.args._from None (request.ListWrite c.args.txn c.args.path.now) (tt, tt, refl) c.decide_list_write-decided.ensures.says
