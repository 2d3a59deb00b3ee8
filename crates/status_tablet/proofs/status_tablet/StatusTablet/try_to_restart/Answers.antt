use Rattle.std.proofs.Common.{◌≡◌, ℕ, None, List, Err, refl, sym, ap, subst, ◌∙◌}
use Rattle.std.specs.List.{fold}
use Rattle.docdb_outside.specs.Count.{Rose}
use Rattle.docdb_outside.specs.declared.load_fault.LoadFault.TheVariants.{Failed}
use Rattle.log_record.specs.declared.log_record.LogRecord.{LogRecord}
use Rattle.leased_log.specs.Loads.{StartsFrom, Restarts}
use Rattle.status_tablet.specs.Keeps.{kept_after}
use Rattle.status_tablet.proofs.status_tablet.StatusTablet.try_to_restart.Goals as goal

pub returns-in-Err-clause-failed : goal.returns-in-Err-clause-failed
returns-in-Err-clause-failed g c is =
    let same : c.in-Err.fault ≡ Failed = cc in
    rw (← c.self.view_is) (record { fails = c.in-Err.ensures.failed (ap Err same); stays = c.in-Err.ensures.not_loaded (ap Err same); status = refl })

pub returns-clause-done : goal.returns-clause-done
returns-clause-done g c = rw (← c.self.view_is) (record {
  middle = c.load.new.self;
  found = c.in-Ok.records.items;
  same = c.in-Ok.ensures.same;
  held = c.in-Ok.ensures.found;
  loads = subst (λ (n : ℕ). Rose c.self.inside.log.loads n) (sym c.restart.ensures.starts.loads) c.in-Ok.ensures.loaded;
  starts = subst (λ (rs : List LogRecord). StartsFrom c.load.new.self c.restart.new.self c.restart.result rs) c.deref-2.ensures.value c.restart.ensures.starts;
  restarts = subst (λ (rs : List LogRecord). Restarts c.load.new.self c.restart.new.self c.restart.result rs) c.deref-2.ensures.value c.restart.ensures.restarts;
  status = refl;
  records = λ x. c.in-Ok-replayed.ensures x ∙ ap (fold (λ kept r. kept_after r x kept) None) c.deref.ensures.value;
})
