use Rattle.txn_data.specs.declared.actor.Actor.TheVariants.{Status}
use Rattle.leased_log.proofs.Rise.{times_are_leased}
use Rattle.status_tablet.proofs.laws.times_are_leased.Goals as goal

pub returns : goal.returns
returns c s bytes faults h st = times_are_leased (Status s.status) s.log bytes faults h st.log
