use Rattle.std.proofs.Common.{Some}
use Rattle.txn_data.specs.declared.request.Request.TheVariants as request
use Rattle.tablet_core.proofs.tablet_core.TabletCore.write.Goals as goal

pub returns-clause-serves : goal.returns-clause-serves
returns-clause-serves g c = c.perform.ensures.performs c.args._from (Some c.args.reading) (request.Write c.args.meta.now c.args.number c.args.path.now c.args.op.now c.args.read c.args.seen c.args.fates.now) (tt, tt, tt) c.decide_write-decided.ensures.says
