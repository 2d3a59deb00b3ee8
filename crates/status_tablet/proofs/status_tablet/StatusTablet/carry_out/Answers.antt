use Rattle.status_tablet.proofs.Performing.{performs, stays_done, serves_undone, stays_undone}
use Rattle.status_tablet.proofs.status_tablet.StatusTablet.carry_out.Goals as goal

pub returns-in-Ok-clause-carries_out : goal.returns-in-Ok-clause-carries_out
returns-in-Ok-clause-carries_out g c =
    performs c.a_status_tablet_is_replayed.ensures.records c.the_same_log_stands.ensures c.args.self.now c.try_to_carry_out.new.self c.args.decided c.in-Ok.served c.in-Ok.ensures.done

pub returns-in-Err-clause-carries_out : goal.returns-in-Err-clause-carries_out
returns-in-Err-clause-carries_out g c from reading asked says =
    rw c.out_of_memory.ensures (serves_undone c.the_same_log_stands.ensures c.args.self.now c.try_to_carry_out.new.self c.in-Err.ensures.memory c.in-Err.ensures.counts from reading asked)

pub returns-in-Ok-clause-stays : goal.returns-in-Ok-clause-stays
returns-in-Ok-clause-stays g c = stays_done c.args.self.now c.try_to_carry_out.new.self c.args.decided c.in-Ok.served c.in-Ok.ensures.done

pub returns-in-Err-clause-stays : goal.returns-in-Err-clause-stays
returns-in-Err-clause-stays g c = rw c.out_of_memory.ensures (stays_undone c.args.self.now c.try_to_carry_out.new.self c.in-Err.ensures.memory)
