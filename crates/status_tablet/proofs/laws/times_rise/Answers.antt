use Rattle.txn_data.specs.declared.actor.Actor.TheVariants.{Status}
use Rattle.leased_log.proofs.Rise.{times_rise}
use Rattle.status_tablet.proofs.laws.times_rise.Goals as goal

pub returns : goal.returns
returns c s bytes faults h st = times_rise (Status s.status) s.log bytes faults h st.log
