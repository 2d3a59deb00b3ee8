use Rattle.std.proofs.Common.{Some}
use Rattle.txn_data.specs.declared.request.Request.TheVariants as request
use Rattle.tablet_core.proofs.tablet_core.TabletCore.single.Goals as goal

pub returns-clause-serves : goal.returns-clause-serves
returns-clause-serves g c = c.perform.ensures.performs c.args._from (Some c.args.reading) (request.Single c.args.txn c.args.path.now c.args.op.now c.args.seen c.args.fates.now) (tt, tt, tt) c.decide_single-decided.ensures.says
