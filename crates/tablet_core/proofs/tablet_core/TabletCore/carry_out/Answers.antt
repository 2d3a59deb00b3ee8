use Rattle.tablet_core.proofs.Performing.{performs, done_itself, undone_serves, undone_itself}
use Rattle.tablet_core.proofs.tablet_core.TabletCore.carry_out.Goals as goal

pub returns-in-Ok-clause-carries_out : goal.returns-in-Ok-clause-carries_out
returns-in-Ok-clause-carries_out g c from reading asked says =
    performs g.V.Versions.holds c.a_tablet_is_replayed.ensures c.the_same_log_stands.ensures c.args.self.now c.try_to_carry_out.new.self c.args.decision c.in-Ok.served c.in-Ok.ensures.done from reading asked says

pub returns-in-Ok-clause-itself : goal.returns-in-Ok-clause-itself
returns-in-Ok-clause-itself g c =
    done_itself g.V.Versions.holds c.a_tablet_is_replayed.ensures c.the_same_log_stands.ensures c.args.self.now c.try_to_carry_out.new.self c.args.decision c.in-Ok.served c.in-Ok.ensures.done

pub returns-in-Err-clause-carries_out : goal.returns-in-Err-clause-carries_out
returns-in-Err-clause-carries_out g c from reading asked says =
    rw c.out_of_memory.ensures (undone_serves g.V.Versions.holds c.the_same_log_stands.ensures c.args.self.now c.try_to_carry_out.new.self c.in-Err.ensures.memory c.in-Err.ensures.counts from reading asked)

pub returns-in-Err-clause-itself : goal.returns-in-Err-clause-itself
returns-in-Err-clause-itself g c = rw c.out_of_memory.ensures (undone_itself g.V.Versions.holds c.args.self.now c.try_to_carry_out.new.self c.in-Err.ensures.memory)
