use Rattle.std.proofs.Common.{rules}
use Rattle.status_tablet.proofs.Says.{forgets_says, notes_says}
use Rattle.status_tablet.proofs.status_tablet.StatusTablet.decide_applied.Goals as goal

pub returns-then-forgets-clause-says : goal.returns-then-forgets-clause-says
returns-then-forgets-clause-says g c = rw c.log-decision.ensures (forgets_says c.args.self.now c.args.txn c.args.tablet (search rules))

pub returns-else-forgets-clause-says : goal.returns-else-forgets-clause-says
returns-else-forgets-clause-says g c = rw c.tell-decision.ensures (notes_says c.args.self.now c.args.txn c.args.tablet (search rules))
