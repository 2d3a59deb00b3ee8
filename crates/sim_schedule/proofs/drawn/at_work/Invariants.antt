use Rattle.std.proofs.Common.{◌≡◌, ◌++◌, filter, map, take}
use Rattle.txn_data.specs.declared.actor.Actor.{Actor}
use Rattle.txn_data.specs.declared.actor.Actor.TheVariants.{Session, Applier}
use Rattle.txn_data.specs.declared.session_plan.SessionPlan.{SessionPlan}
use Rattle.txn_types.specs.Script.{actor_of, from_up}
use Rattle.mover_chain.specs.NextEvent.{given_by, has_event}
use Rattle.world_core.specs.World.{recorded}
use Rattle.sim_schedule.proofs.drawn.at_work.Given as goal

abbrev pub invariant-loop-one : goal.invariant-loop-one
invariant-loop-one g l = map actor_of l.working.items ≡ filter (λ (a : Actor). has_event (given_by l.plan) l.config a (recorded l.simulation.world)) (map (λ (p : SessionPlan). Session p.session) (take l.one-index l.plan.sessions))

abbrev pub invariant-loop-tablet : goal.invariant-loop-tablet
invariant-loop-tablet g l = map actor_of l.working.items ≡ filter (λ (a : Actor). has_event (given_by l.plan) l.config a (recorded l.simulation.world)) (map (λ (p : SessionPlan). Session p.session) l.plan.sessions ++ map Applier (from_up 0 l.tablet))
