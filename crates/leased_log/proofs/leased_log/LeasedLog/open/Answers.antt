use Rattle.leased_log.proofs.Begun.{none_stands}
use Rattle.leased_log.proofs.leased_log.LeasedLog.open.Goals as goal

pub returns-clause-stands : goal.returns-clause-stands
returns-clause-stands g c a =
    rw c.new.ensures (none_stands a c.args.lease_us (g.L.LogStore.room c.args.store) (g.L.LogStore.loads c.args.store) (g.L.LogStore.faults c.args.store) (g.L.LogStore.held c.args.store) c.requires.empty)
