use Rattle.std.proofs.Common.{rules}
use Rattle.status_tablet.proofs.Says.{ask_says}
use Rattle.status_tablet.proofs.status_tablet.StatusTablet.decide_ask.Goals as goal

pub returns-in-Ok-clause-says : goal.returns-in-Ok-clause-says
returns-in-Ok-clause-says g c = rw c.plain-in-Ok.ensures (ask_says c.it_is_the_clock_of_the_tables.ensures c.args.self.now c.args.txn c.args.t c.args.reading c.in-Ok.step c.fate_of.result (search rules) (search rules))
