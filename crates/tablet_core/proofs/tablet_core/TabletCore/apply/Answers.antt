use Rattle.std.proofs.Common.{Some}
use Rattle.txn_data.specs.declared.request.Request.TheVariants as request
use Rattle.tablet_core.proofs.tablet_core.TabletCore.apply.Goals as goal

pub returns-clause-serves : goal.returns-clause-serves
returns-clause-serves g c = c.perform.ensures.performs c.args._from (Some c.args.reading) (request.Apply c.args.txn c.args.at) (tt, tt, tt) c.decide_apply-decided.ensures.says
