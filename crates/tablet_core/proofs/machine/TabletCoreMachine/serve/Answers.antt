use Rattle.tablet_core.proofs.Performing.{with_reading}
use Rattle.tablet_core.proofs.machine.TabletCoreMachine.serve.Goals as goal

pub returns-in-ListWrite-clause-serves : goal.returns-in-ListWrite-clause-serves
returns-in-ListWrite-clause-serves g c = rw c.in-ListWrite.is (with_reading g.V.Versions.holds _ _ _ _ _ _ c.list_write.ensures.serves c.list_write.ensures.serves.advances)

pub returns-in-ListIntents-clause-serves : goal.returns-in-ListIntents-clause-serves
returns-in-ListIntents-clause-serves g c = rw c.in-ListIntents.is (with_reading g.V.Versions.holds _ _ _ _ _ _ c.list_intents.ensures.serves c.list_intents.ensures.serves.advances)

pub returns-in-Collect-clause-serves : goal.returns-in-Collect-clause-serves
returns-in-Collect-clause-serves g c = rw c.in-Collect.is (with_reading g.V.Versions.holds _ _ _ _ _ _ c.collect.ensures.serves c.collect.ensures.serves.advances)

pub returns-in-Clean-clause-serves : goal.returns-in-Clean-clause-serves
returns-in-Clean-clause-serves g c = rw c.in-Clean.is (with_reading g.V.Versions.holds _ _ _ _ _ _ c.clean.ensures.serves c.clean.ensures.serves.advances)

pub returns-in-Restart-clause-serves : goal.returns-in-Restart-clause-serves
returns-in-Restart-clause-serves g c = rw c.in-Restart.is (with_reading g.V.Versions.holds _ _ _ _ _ _ c.restart.ensures.serves c.restart.ensures.serves.advances)
