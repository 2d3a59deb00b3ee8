use Rattle.std.proofs.Common.{◌∙◌}
use Rattle.leased_log.specs.Decides.{records_of_step}
use Rattle.leased_log.proofs.Whole.{whole_appended}
use Rattle.leased_log.proofs.leased_log.LeasedLog.carry_out.Goals as goal

pub invariant_of-self-then-is_err : goal.invariant_of-self-then-is_err
invariant_of-self-then-is_err g c = whole_appended (g.L.LogStore.held c.self.inside.store) (g.L.LogStore.held c.append.new.self) c.deref.result.now (records_of_step c.action.inside.step c.action.inside.own) c.append.result c.self.invariant c.action.invariant.2 (c.deref.ensures.value ∙ c.action.invariant.1) c.append.ensures.ok c.append.ensures.all_or_none

pub invariant_of-self-else-is_err : goal.invariant_of-self-else-is_err
invariant_of-self-else-is_err g c = whole_appended (g.L.LogStore.held c.self.inside.store) (g.L.LogStore.held c.append.new.self) c.deref.result.now (records_of_step c.action.inside.step c.action.inside.own) c.append.result c.self.invariant c.action.invariant.2 (c.deref.ensures.value ∙ c.action.invariant.1) c.append.ensures.ok c.append.ensures.all_or_none
