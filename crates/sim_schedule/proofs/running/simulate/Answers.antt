use Rattle.std.proofs.Common.{ap, reverse}
use Rattle.std.proofs.lemmas.Result.{err_from_is_err_and}
use Rattle.txn_types.specs.History.{history_of}
use Rattle.law_schedules.specs.Courses.{Course}
use Rattle.mover_chain.specs.NextEvent.{given_by}
use Rattle.world_core.specs.World.{recorded}
use Rattle.world_machines.specs.Stores.{spare_of, stores_of}
use Rattle.sim_schedule.specs.Left.{DidAll, RanOut}
use Rattle.sim_schedule.proofs.Ends.{err_of, ok_map}
use Rattle.sim_schedule.proofs.Leaving.{done, first_out, ran_out}
use Rattle.sim_schedule.proofs.running.simulate.Goals as goal

pub returns-in_err-simulation-clause-memory : goal.returns-in_err-simulation-clause-memory
returns-in_err-simulation-clause-memory g c =
    let p = err_from_is_err_and c.from_residual.result c.from_residual.ensures.1 in
    rw p.1 (first_out c.args.config.now c.args.plan.now g.L.LogStore.held g.L.LogStore.faults c.args.logs.now.items c.open.new.logs.items (history_of c.args.trace.now) c.requires.runnable c.in_err-simulation.ensures.memory (ap reverse c.requires.empty))

pub returns-clause-done : goal.returns-clause-done
returns-clause-done g c =
    let start = stores_of c.args.config.now g.L.LogStore.held g.L.LogStore.faults c.args.logs.now.items in
    let spare = spare_of c.args.config.now c.args.logs.now.items in
    let stands = c.run-done.ensures.stands start spare c.in_ok-simulation.ensures.stands in
    let closed = c.close.ensures c.args.config.now (given_by c.args.plan.now) start spare stands.world in
    ok_map c.run-done.result (Course c.args.config.now c.args.plan.now (recorded c.run-done.new.simulation.world)) (DidAll c.args.config.now c.args.plan.now g.L.LogStore.held g.L.LogStore.faults c.args.logs.now.items c.close.new.logs.items (history_of c.close.result))
    (λ course. done c.args.config.now c.args.plan.now g.L.LogStore.held g.L.LogStore.faults c.args.logs.now.items c.close.new.logs.items c.run-done.new.simulation.world c.run-done.new.simulation.clocks.items (history_of c.close.result) c.requires.stores stands closed course)
    c.run-done.ensures.so

pub returns-clause-memory : goal.returns-clause-memory
returns-clause-memory g c =
    let start = stores_of c.args.config.now g.L.LogStore.held g.L.LogStore.faults c.args.logs.now.items in
    let spare = spare_of c.args.config.now c.args.logs.now.items in
    let stands = c.run-done.ensures.stands start spare c.in_ok-simulation.ensures.stands in
    let closed = c.close.ensures c.args.config.now (given_by c.args.plan.now) start spare stands.world in
    err_of c.run-done.result (RanOut c.args.config.now c.args.plan.now g.L.LogStore.held g.L.LogStore.faults c.args.logs.now.items c.close.new.logs.items (history_of c.close.result))
    (ran_out c.args.config.now c.args.plan.now g.L.LogStore.held g.L.LogStore.faults c.args.logs.now.items c.close.new.logs.items c.run-done.new.simulation.world c.run-done.new.simulation.clocks.items (history_of c.close.result) c.requires.stores stands closed)
