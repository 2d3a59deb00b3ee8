use Rattle.std.proofs.Common.{Err, ap}
use Rattle.tablet_core.proofs.Performing.{undone_itself}
use Rattle.tablet_core.proofs.Restarting.{restart_serves, restart_itself, rebuilt, fault_serves, fault_itself, restart_undone}
use Rattle.tablet_core.proofs.tablet_core.TabletCore.restart.Goals as goal

pub returns-in-Ok-clause-serves : goal.returns-in-Ok-clause-serves
returns-in-Ok-clause-serves g c =
    rw c.restarted.ensures (restart_serves g.V.Versions.holds c.a_tablet_is_replayed.ensures c.the_same_log_stands.ensures c.args.self.now c.try_to_restart.new.self c.in-Ok.kept c.in-Ok.ensures.done c.args._from)

pub returns-in-Ok-clause-itself : goal.returns-in-Ok-clause-itself
returns-in-Ok-clause-itself g c = rw c.restarted.ensures (restart_itself g.V.Versions.holds c.args.self.now c.try_to_restart.new.self c.in-Ok.kept c.in-Ok.ensures.done)

pub returns-in-Ok-clause-rebuilt : goal.returns-in-Ok-clause-rebuilt
returns-in-Ok-clause-rebuilt g c =
    rw c.restarted.ensures (rebuilt g.V.Versions.holds c.a_tablet_is_replayed.ensures c.the_same_log_stands.ensures c.args.self.now c.try_to_restart.new.self c.in-Ok.kept c.in-Ok.ensures.done)

pub returns-in-Err-Failed-clause-serves : goal.returns-in-Err-Failed-clause-serves
returns-in-Err-Failed-clause-serves g c =
    rw c.log_fault.ensures (fault_serves g.V.Versions.holds c.args.self.now c.try_to_restart.new.self (c.in-Err-Failed.ensures.failed (ap Err c.in-Err-Failed.field-0-is)) c.args._from)

pub returns-in-Err-Failed-clause-itself : goal.returns-in-Err-Failed-clause-itself
returns-in-Err-Failed-clause-itself g c =
    rw c.log_fault.ensures (fault_itself g.V.Versions.holds c.args.self.now c.try_to_restart.new.self (c.in-Err-Failed.ensures.failed (ap Err c.in-Err-Failed.field-0-is)))

pub returns-in-Err-Memory-clause-serves : goal.returns-in-Err-Memory-clause-serves
returns-in-Err-Memory-clause-serves g c =
    rw c.out_of_memory.ensures (restart_undone g.V.Versions.holds c.the_same_log_stands.ensures c.args.self.now c.try_to_restart.new.self (c.in-Err-Memory.ensures.memory (ap Err c.in-Err-Memory.field-0-is)) c.args._from)

pub returns-in-Err-Memory-clause-itself : goal.returns-in-Err-Memory-clause-itself
returns-in-Err-Memory-clause-itself g c =
    rw c.out_of_memory.ensures (undone_itself g.V.Versions.holds c.args.self.now c.try_to_restart.new.self (c.in-Err-Memory.ensures.memory (ap Err c.in-Err-Memory.field-0-is)))
