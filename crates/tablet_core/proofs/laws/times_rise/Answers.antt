use Rattle.txn_data.specs.declared.actor.Actor.TheVariants.{Tablet}
use Rattle.leased_log.proofs.Rise.{times_rise}
use Rattle.tablet_core.proofs.laws.times_rise.Goals as goal

pub returns : goal.returns
returns g c bytes faults h st = times_rise (Tablet c.args._tablet.now.tablet) c.args._tablet.now.log bytes faults h st.log
