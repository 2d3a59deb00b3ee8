use Rattle.std.proofs.Common.{None, refl}
use Rattle.txn_data.specs.declared.request.Request.TheVariants as request
use Rattle.tablet_core.proofs.tablet_core.TabletCore.list_intents.Goals as goal

pub returns-clause-serves : goal.returns-clause-serves
returns-clause-serves g c = c.perform.ensures.performs c.args._from None request.ListIntents (tt, tt, refl) c.decide_list_intents-decided.ensures.says
