use Rattle.std.proofs.Common.{Err, refl, ap}
use Rattle.status_tablet.proofs.Performing.{undone, stays_undone}
use Rattle.status_tablet.proofs.Restarting.{restart_serves, restart_stays, rebuilt, fault_serves, fault_stays}
use Rattle.status_tablet.proofs.status_tablet.StatusTablet.restart.Goals as goal

pub returns-in-Ok-clause-serves : goal.returns-in-Ok-clause-serves
returns-in-Ok-clause-serves g c = rw c.restarted.ensures (record {
  advances = restart_serves c.a_status_tablet_is_replayed.ensures.records c.the_same_log_stands.ensures c.args.self.now c.try_to_restart.new.self c.in-Ok.kept c.in-Ok.ensures.done c.args._from;
  fault = λ is. cc;
  memory = λ is. cc;
  restart = refl;
  loads = λ plain. absurd plain;
  faults = λ plain. absurd plain;
})

pub returns-in-Ok-clause-stays : goal.returns-in-Ok-clause-stays
returns-in-Ok-clause-stays g c = rw c.restarted.ensures (restart_stays c.args.self.now c.try_to_restart.new.self c.in-Ok.kept c.in-Ok.ensures.done)

pub returns-in-Ok-clause-rebuilt : goal.returns-in-Ok-clause-rebuilt
returns-in-Ok-clause-rebuilt g c = rw c.restarted.ensures (rebuilt c.a_status_tablet_is_replayed.ensures.records c.the_same_log_stands.ensures c.args.self.now c.try_to_restart.new.self c.in-Ok.kept c.in-Ok.ensures.done)

pub returns-in-Err-Failed-clause-serves : goal.returns-in-Err-Failed-clause-serves
returns-in-Err-Failed-clause-serves g c = rw c.log_fault.ensures (record {
  advances = fault_serves c.args.self.now c.try_to_restart.new.self (c.in-Err-Failed.ensures.failed (ap Err c.in-Err-Failed.field-0-is)) c.args._from;
  fault = λ is. (c.in-Err-Failed.ensures.failed (ap Err c.in-Err-Failed.field-0-is)).fails.faults;
  memory = λ is. cc;
  restart = tt;
  loads = λ plain. absurd plain;
  faults = λ plain. absurd plain;
})

pub returns-in-Err-Failed-clause-stays : goal.returns-in-Err-Failed-clause-stays
returns-in-Err-Failed-clause-stays g c = rw c.log_fault.ensures (fault_stays c.args.self.now c.try_to_restart.new.self (c.in-Err-Failed.ensures.failed (ap Err c.in-Err-Failed.field-0-is)))

pub returns-in-Err-Memory-clause-serves : goal.returns-in-Err-Memory-clause-serves
returns-in-Err-Memory-clause-serves g c = rw c.out_of_memory.ensures (record {
  advances = undone c.the_same_log_stands.ensures c.args.self.now c.try_to_restart.new.self (c.in-Err-Memory.ensures.memory (ap Err c.in-Err-Memory.field-0-is));
  fault = λ is. cc;
  memory = λ is. (refl, c.in-Err-Memory.ensures.memory (ap Err c.in-Err-Memory.field-0-is));
  restart = tt;
  loads = λ plain. absurd plain;
  faults = λ plain. absurd plain;
})

pub returns-in-Err-Memory-clause-stays : goal.returns-in-Err-Memory-clause-stays
returns-in-Err-Memory-clause-stays g c = rw c.out_of_memory.ensures (stays_undone c.args.self.now c.try_to_restart.new.self (c.in-Err-Memory.ensures.memory (ap Err c.in-Err-Memory.field-0-is)))
