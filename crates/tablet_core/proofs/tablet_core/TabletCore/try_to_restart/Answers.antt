use Rattle.std.proofs.Common.{◌≡◌, ℕ, List, Err, refl, sym, ap, subst}
use Rattle.docdb_outside.specs.Count.{Rose}
use Rattle.docdb_outside.specs.declared.load_fault.LoadFault.TheVariants.{Failed}
use Rattle.log_record.specs.declared.log_record.LogRecord.{LogRecord}
use Rattle.tablet_log.specs.Replay.{tablet_of}
use Rattle.leased_log.specs.Loads.{StartsFrom, Restarts}
use Rattle.tablet_records.specs.Keeps.{Keeps}
use Rattle.tablet_core.proofs.tablet_core.TabletCore.try_to_restart.Goals as goal

pub returns-in-Err-clause-failed : goal.returns-in-Err-clause-failed
returns-in-Err-clause-failed g c is =
    let same : c.in-Err.fault ≡ Failed = cc in
    rw (← c.self.view_is) (record { fails = c.in-Err.ensures.failed (ap Err same); stays = c.in-Err.ensures.not_loaded (ap Err same); tablet = refl })

pub returns-clause-done : goal.returns-clause-done
returns-clause-done g c = rw (← c.self.view_is) (record {
  middle = c.load.new.self;
  found = c.in-Ok.records.items;
  same = c.in-Ok.ensures.same;
  held = c.in-Ok.ensures.found;
  loads = subst (λ (n : ℕ). Rose c.self.inside.log.loads n) (sym c.restart.ensures.starts.loads) c.in-Ok.ensures.loaded;
  starts = subst (λ (rs : List LogRecord). StartsFrom c.load.new.self c.restart.new.self c.restart.result rs) c.deref-2.ensures.value c.restart.ensures.starts;
  restarts = subst (λ (rs : List LogRecord). Restarts c.load.new.self c.restart.new.self c.restart.result rs) c.deref-2.ensures.value c.restart.ensures.restarts;
  tablet = refl;
  records = subst (λ (rs : List LogRecord). Keeps g.V.Versions.holds c.in-Ok-replayed.rebuilt (tablet_of rs).intents (tablet_of rs).versions) c.deref.ensures.value c.in-Ok-replayed.ensures;
})
