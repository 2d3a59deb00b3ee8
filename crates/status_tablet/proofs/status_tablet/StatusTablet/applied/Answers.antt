use Rattle.std.proofs.Common.{None, refl}
use Rattle.txn_data.specs.declared.request.Request.TheVariants as request
use Rattle.status_tablet.proofs.status_tablet.StatusTablet.applied.Goals as goal

pub returns-clause-serves : goal.returns-clause-serves
returns-clause-serves g c = c.perform.ensures.performs c.args._from None (request.Applied c.args.txn c.args.tablet) (tt, tt, refl) c.decide_applied-decided.ensures.says
