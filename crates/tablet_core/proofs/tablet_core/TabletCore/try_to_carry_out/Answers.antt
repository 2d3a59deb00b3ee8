use Rattle.std.proofs.Common.{Option, refl, ap, subst, ◌∙◌}
use Rattle.std.specs.List.{AllByRecursion}
use Rattle.tablet_log.specs.Frames.{IsRecord}
use Rattle.log_record.specs.declared.log_record.LogRecord.{LogRecord}
use Rattle.leased_log.specs.declared.decision.Decision.{Decision}
use Rattle.leased_log.specs.Decides.{records_for, Does}
use Rattle.leased_log.specs.Acts.{Acts}
use Rattle.tablet_records.specs.Keeps.{Keeps}
use Rattle.tablet_core.specs.Decisions.{IsUndone, intents_with, versions_with}
use Rattle.tablet_core.proofs.Fitted.{same_fit, acted_fit}
use Rattle.tablet_core.proofs.Performing.{on_err}
use Rattle.tablet_core.proofs.tablet_core.TabletCore.try_to_carry_out.Goals as goal

pub returns-clause-done : goal.returns-clause-done
returns-clause-done g c = rw (← c.self.view_is) (record {
  middle = c.ready.new.self;
  same = c.in_ok-action.ensures.same;
  counts = record { faults = c.in_ok-action.ensures.faults; loads = c.in_ok-action.ensures.loads };
  spelled = subst (λ (d : Decision). AllByRecursion IsRecord (records_for d)) c.in_ok-action.ensures.ready c.act.ensures.spelled;
  acts = subst (λ (d : Decision). Acts c.ready.new.self c.act.new.self d c.act.result) c.in_ok-action.ensures.ready c.act.ensures.acts;
  does = subst (λ (d : Decision). Does c.ready.new.self c.act.new.self d c.act.result) c.in_ok-action.ensures.ready c.act.ensures.does;
  tablet = refl;
  records = λ ps vs kept. subst (λ (o : Option LogRecord). Keeps g.V.Versions.holds c.take_in.new.records (intents_with o ps) (versions_with o vs ps))
      (c.own.ensures ∙ ap (λ (d : Decision). d.own) c.in_ok-action.ensures.ready) (c.in_ok-take_in.ensures.ok ps vs kept);
})

pub returns-in_err-take_in-clause-memory : goal.returns-in_err-take_in-clause-memory
returns-in_err-take_in-clause-memory g c =
    rw (← c.self.view_is) (on_err (IsUndone g.V.Versions.holds _ (record { tablet = c.self.inside.tablet; log = c.ready.new.self; records = c.take_in.new.records }))
    c.from_residual-in_err-take_in.result (record { same = c.in_ok-action.ensures.same; tablet = refl; records = c.in_err-take_in.ensures.memory }))

pub invariant_of-self-2 : goal.invariant_of-self-2
invariant_of-self-2 g c =
    acted_fit g.V.Versions.fits c.act.result.append c.ready.new.self c.act.new.self c.in_ok-action.action c.act.ensures.acts.by c.act.ensures.spelled
    (rw c.in_ok-action.ensures.ready c.requires.loggable.fit)
    (same_fit g.V.Versions.fits c.self.inside.log.held c.ready.new.self.held c.self.invariant c.in_ok-action.ensures.same.held)
