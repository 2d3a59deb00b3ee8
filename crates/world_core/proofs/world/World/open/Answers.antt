use Rattle.std.proofs.Common.{sym, subst}
use Rattle.txn_types.specs.History.{history_of}
use Rattle.mover_chain.specs.NextEvent.{given_by}
use Rattle.world_machines.specs.Stores.{spare_of, stores_of}
use Rattle.world_actors.specs.Standing.{AreStanding}
use Rattle.world_core.proofs.world.World.open.Goals as goal

pub returns-clause-stands : goal.returns-clause-stands
returns-clause-stands g c =
    subst (λ es. AreStanding c.args.config.now (given_by c.args.plan.now) (stores_of c.args.config.now g.L.LogStore.held g.L.LogStore.faults c.args.logs.now.items) (spare_of c.args.config.now c.args.logs.now.items) (history_of (record { entries = es })) c.in_ok-actors.actors)
    (sym c.new.ensures) c.in_ok-actors.ensures.stands
