use Rattle.safe_time.proofs.Tables.{clock_taken, clock_same, clock_restarted}
use Rattle.safe_time.proofs.laws.entries_move_the_clock.Goals as goal

pub returns-clause-taken : goal.returns-clause-taken
returns-clause-taken c = clock_taken

pub returns-clause-same : goal.returns-clause-same
returns-clause-same c = clock_same

pub returns-clause-restarted : goal.returns-clause-restarted
returns-clause-restarted c = clock_restarted
