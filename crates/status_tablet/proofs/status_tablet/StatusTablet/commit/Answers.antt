use Rattle.std.proofs.Common.{Some, refl}
use Rattle.txn_data.specs.declared.request.Request.TheVariants as request
use Rattle.status_tablet.proofs.Performing.{stays_undone, nothing_done}
use Rattle.status_tablet.proofs.status_tablet.StatusTablet.commit.Goals as goal

pub returns-in-Ok-clause-serves : goal.returns-in-Ok-clause-serves
returns-in-Ok-clause-serves g c =
    c.perform.ensures.performs c.args._from (Some c.args.reading) (request.Commit c.args.txn c.args.floor c.args.tablets.now) (tt, tt, tt) c.in-Ok.ensures.says

pub returns-in-Err-clause-serves : goal.returns-in-Err-clause-serves
returns-in-Err-clause-serves g c = rw c.out_of_memory.ensures (record {
  advances = λ bytes faults h st. st;
  fault = λ is. cc;
  memory = λ is. (refl, nothing_done c.args.self.now);
  restart = tt;
  loads = λ plain. refl;
  faults = λ plain none. refl;
})

pub returns-in-Err-clause-stays : goal.returns-in-Err-clause-stays
returns-in-Err-clause-stays g c = rw c.out_of_memory.ensures (stays_undone c.args.self.now c.args.self.now (nothing_done c.args.self.now))
