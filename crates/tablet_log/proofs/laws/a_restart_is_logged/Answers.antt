use Rattle.tablet_log.proofs.Restarted.{log_restarted, no_piece}
use Rattle.tablet_log.proofs.laws.a_restart_is_logged.Goals as goal

pub returns-clause-records : goal.returns-clause-records
returns-clause-records c = log_restarted

pub returns-clause-none : goal.returns-clause-none
returns-clause-none c = no_piece
