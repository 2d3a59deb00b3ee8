use Rattle.status_tablet.proofs.Serving.{with_reading}
use Rattle.status_tablet.proofs.machine.StatusTabletMachine.serve.Goals as goal

pub returns-in-Begin-clause-serves : goal.returns-in-Begin-clause-serves
returns-in-Begin-clause-serves g c = rw c.in-Begin.is (with_reading _ _ _ _ _ _ c.begin.ensures.serves c.begin.ensures.serves.advances)

pub returns-in-Resolve-clause-serves : goal.returns-in-Resolve-clause-serves
returns-in-Resolve-clause-serves g c = rw c.in-Resolve.is (with_reading _ _ _ _ _ _ c.resolve.ensures.serves c.resolve.ensures.serves.advances)

pub returns-in-Abort-clause-serves : goal.returns-in-Abort-clause-serves
returns-in-Abort-clause-serves g c = rw c.in-Abort.is (with_reading _ _ _ _ _ _ c.abort.ensures.serves c.abort.ensures.serves.advances)

pub returns-in-Applied-clause-serves : goal.returns-in-Applied-clause-serves
returns-in-Applied-clause-serves g c = rw c.in-Applied.is (with_reading _ _ _ _ _ _ c.applied.ensures.serves c.applied.ensures.serves.advances)

pub returns-in-Restart-clause-serves : goal.returns-in-Restart-clause-serves
returns-in-Restart-clause-serves g c = rw c.in-Restart.is (with_reading _ _ _ _ _ _ c.restart.ensures.serves c.restart.ensures.serves.advances)
