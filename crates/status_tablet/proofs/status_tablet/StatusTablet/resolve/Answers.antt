use Rattle.std.proofs.Common.{None, refl}
use Rattle.txn_data.specs.declared.request.Request.TheVariants as request
use Rattle.status_tablet.proofs.status_tablet.StatusTablet.resolve.Goals as goal

pub returns-clause-serves : goal.returns-clause-serves
returns-clause-serves g c = c.perform.ensures.performs c.args._from None (request.Resolve c.args.txn c.args.by c.args.priority) (tt, tt, refl) c.decide_resolve-decided.ensures.says
