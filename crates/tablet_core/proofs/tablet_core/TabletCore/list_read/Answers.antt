use Rattle.std.proofs.Common.{Some}
use Rattle.txn_data.specs.declared.request.Request.TheVariants as request
use Rattle.tablet_core.proofs.tablet_core.TabletCore.list_read.Goals as goal

pub returns-clause-serves : goal.returns-clause-serves
returns-clause-serves g c = c.perform.ensures.performs c.args._from (Some c.args.reading) (request.ListRead c.args.own c.args.paths.now c.args.t c.args.g c.args.limit) (tt, tt, tt) c.decide_list_read-decided.ensures.says
