use Rattle.std.proofs.Common.{None, refl}
use Rattle.txn_data.specs.declared.request.Request.TheVariants as request
use Rattle.status_tablet.proofs.status_tablet.StatusTablet.abort.Goals as goal

pub returns-clause-serves : goal.returns-clause-serves
returns-clause-serves g c = c.perform.ensures.performs c.args._from None (request.Abort c.args.txn) (tt, tt, refl) c.decide_abort-decided.ensures.says
