use Rattle.tablet_log.proofs.Replayed.{lease_is, status_is}
use Rattle.tablet_log.proofs.laws.a_status_tablet_is_replayed.Goals as goal

pub returns-clause-lease : goal.returns-clause-lease
returns-clause-lease c = lease_is

pub returns-clause-records : goal.returns-clause-records
returns-clause-records c = status_is
