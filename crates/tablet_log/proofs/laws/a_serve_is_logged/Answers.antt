use Rattle.tablet_log.proofs.Stepped.{log_taken, log_failed, piece_failed}
use Rattle.tablet_log.proofs.laws.a_serve_is_logged.Goals as goal

pub returns-clause-taken : goal.returns-clause-taken
returns-clause-taken c = log_taken

pub returns-clause-failed : goal.returns-clause-failed
returns-clause-failed c = log_failed

pub returns-clause-piece : goal.returns-clause-piece
returns-clause-piece c = piece_failed
