use Rattle.std.proofs.Common.{Some}
use Rattle.txn_data.specs.declared.request.Request.TheVariants as request
use Rattle.status_tablet.proofs.status_tablet.StatusTablet.ask.Goals as goal

pub returns-clause-serves : goal.returns-clause-serves
returns-clause-serves g c = c.perform.ensures.performs c.args._from (Some c.args.reading) (request.AskFate c.args.txn c.args.t) (tt, tt, tt) c.decide_ask-decided.ensures.says
