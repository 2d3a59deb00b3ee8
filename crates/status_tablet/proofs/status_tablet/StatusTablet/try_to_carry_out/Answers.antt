use Rattle.std.proofs.Common.{Option, refl, ap, subst, ◌∙◌}
use Rattle.log_record.specs.declared.log_record.LogRecord.{LogRecord}
use Rattle.leased_log.specs.declared.decision.Decision.{Decision}
use Rattle.std.specs.List.{AllByRecursion}
use Rattle.tablet_log.specs.Frames.{IsRecord}
use Rattle.leased_log.specs.Decides.{records_for, Does}
use Rattle.leased_log.specs.Acts.{Acts}
use Rattle.status_tablet.specs.Keeps.{kept_at, kept_with, marked}
use Rattle.status_tablet.proofs.status_tablet.StatusTablet.try_to_carry_out.Goals as goal

pub returns-clause-done : goal.returns-clause-done
returns-clause-done g c = rw (← c.self.view_is) (record {
  middle = c.ready.new.self;
  same = c.in_ok-action.ensures.same;
  counts = record { faults = c.in_ok-action.ensures.faults; loads = c.in_ok-action.ensures.loads };
  spelled = subst (λ (d : Decision). AllByRecursion IsRecord (records_for d)) c.in_ok-action.ensures.ready c.act.ensures.spelled;
  acts = subst (λ (d : Decision). Acts c.ready.new.self c.act.new.self d c.act.result) c.in_ok-action.ensures.ready c.act.ensures.acts;
  does = subst (λ (d : Decision). Does c.ready.new.self c.act.new.self d c.act.result) c.in_ok-action.ensures.ready c.act.ensures.does;
  status = refl;
  records = λ x. c.in_ok-take_in.ensures.ok x
      ∙ ap (λ (o : Option LogRecord). marked c.args.decided.mark x (kept_with o x (kept_at c.self.inside.records.map.entries x)))
      (c.own.ensures ∙ ap (λ (d : Decision). d.own) c.in_ok-action.ensures.ready);
})
