use Rattle.std.proofs.Common.{rules}
use Rattle.status_tablet.proofs.Says.{commit_says}
use Rattle.status_tablet.proofs.status_tablet.StatusTablet.decide_new_commit.Goals as goal

pub returns-in_ok-try_copy-in-Ok-clause-says : goal.returns-in_ok-try_copy-in-Ok-clause-says
returns-in_ok-try_copy-in-Ok-clause-says g c = rw c.in_ok-try_copy-in-Ok.ensures (commit_says c.it_is_the_clock_of_the_tables.ensures c.args.self.now c.args.txn c.args.floor c.args.reading c.args.tablets.now c.in-Ok.step (search rules))
