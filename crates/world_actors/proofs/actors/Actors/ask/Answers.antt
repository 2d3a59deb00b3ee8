use Rattle.std.proofs.Common.{◌≡◌, ◌≤◌, ◌<◌, true, Some, length, reverse, is_some, sym, ◌∙◌, ap, subst, slice_index_or}
use Rattle.txn_types.specs.Script.{node_of, number_at}
use Rattle.world_machines.specs.Machines as machines
use Rattle.world_machines.specs.Machines.{MayServe}
use Rattle.world_machines.specs.Served.{IsServed}
use Rattle.world_movers.specs.Movers as movers
use Rattle.world_movers.specs.Movers.{takes_lists}
use Rattle.world_actors.specs.Standing.{asked_at}
use Rattle.world_actors.proofs.Asking.{is_asked, may, reads_within, some_nodes, takes}
use Rattle.world_actors.proofs.Recorded.{indexed}
use Rattle.world_actors.proofs.Recording.{lost_recorded, serve_recorded}
use Rattle.world_actors.proofs.actors.Actors.ask.Goals as goal

pub request_at-requires : goal.request_at-requires
request_at-requires g c =
    subst (λ l. is_some (asked_at l c.args.asking.at) ≡ true) (sym c.deref.ensures.value)
    (is_asked c.args.entries.now.items c.args.who c.args.asking c.args.self.now c.requires.stand c.requires.awaits)

pub node_of-requires : goal.node_of-requires
node_of-requires g c = subst (λ a. 1 ≤ a.config.nodes) (sym c.self.view_is) (some_nodes (reverse c.args.entries.now.items) c.args.self.now c.requires.stand)

pub bounds-readings-node_of : goal.bounds-readings-node_of
bounds-readings-node_of g c =
    subst (λ n. n < length c.args.readings.now) (sym c.node_of.ensures)
    (subst (λ a. node_of a.config c.args.asking.to < length c.args.readings.now) (sym c.self.view_is)
    (reads_within (reverse c.args.entries.now.items) c.args.self.now c.args.asking.to c.args.readings.now c.requires.stand c.requires.readings))

pub serve-requires-clause-may : goal.serve-requires-clause-may
serve-requires-clause-may g c =
    let there = subst (λ l. asked_at l c.args.asking.at ≡ Some c.in_ok-request.request) c.deref.ensures.value (c.request_at.ensures ∙ ap Some (sym c.in_ok-request.ensures)) in
    subst (λ a. MayServe a.machines c.args.asking.to c.in_ok-request.request) (sym c.self.view_is)
    (may c.args.entries.now.items c.args.who c.args.asking c.in_ok-request.request c.args.self.now c.requires.stand c.requires.awaits there)

pub answered-requires-clause-listed : goal.answered-requires-clause-listed
answered-requires-clause-listed g c = λ listed.
    let h = reverse c.args.entries.now.items in
    let there = subst (λ l. asked_at l c.args.asking.at ≡ Some c.in_ok-request.request) c.deref.ensures.value (c.request_at.ensures ∙ ap Some (sym c.in_ok-request.ensures)) in
    let reading = slice_index_or c.args.readings.now c.node_of.result 0 in
    subst (λ a. takes_lists a.movers c.args.who ≡ true) (sym c.self.view_is)
    (takes c.args.entries.now.items c.args.who c.args.asking c.in_ok-request.request reading c.in-Ok.field-0.reply c.in-Ok.field-0.entry c.args.self.now c.requires.stand c.requires.awaits there
    (λ config start spare stands.
    subst (λ b. IsServed config c.args.asking.to b c.in_ok-request.request reading h c.in-Ok.field-0.reply c.in-Ok.field-0.entry) c.actor_of.ensures
    (c.in-Ok.ensures.ok config start spare h (subst (λ a. machines.StandsFor config start spare h a.machines) (sym c.self.view_is) stands)).0)
    listed)

pub returns-in-Ok-clause-steps : goal.returns-in-Ok-clause-steps
returns-in-Ok-clause-steps g c = λ config given start spare stands.
    let h = reverse c.args.entries.now.items in
    let there = subst (λ l. asked_at l c.args.asking.at ≡ Some c.in_ok-request.request) c.deref.ensures.value (c.request_at.ensures ∙ ap Some (sym c.in_ok-request.ensures)) in
    let reading = slice_index_or c.args.readings.now c.node_of.result 0 in
    let inside = subst (λ a. movers.StandsFor config given h a.movers) (sym c.self.view_is) stands.movers in
    let within = subst (λ a. machines.StandsFor config start spare h a.machines) (sym c.self.view_is) stands.machines in
    let node = c.node_of.ensures ∙ ap (λ a. node_of a.config c.args.asking.to) c.self.view_is ∙ ap (λ k. node_of k c.args.asking.to) stands.cluster in
    let served = c.in-Ok.ensures.ok config start spare h within in
    serve_recorded config given start spare c.args.readings.now c.args.who c.args.asking c.in_ok-request.request c.args.entries.now.items c.reserve.new.self.items c.push_reserved.new.self.items reading c.in-Ok.field-0.reply c.in-Ok.field-0.entry
    c.in_ok-reserve.ensures.items c.push_reserved.ensures.items stands c.requires.left c.requires.awaits there
    (λ machine. sym (c.if-not-has_room.ensures.entries config start spare h within machine))
    (indexed c.args.readings.now c.node_of.result ∙ ap (λ n. number_at n c.args.readings.now) node)
    (ap (λ a. a.config) c.self.view_is)
    (subst (λ b. IsServed config c.args.asking.to b c.in_ok-request.request reading h c.in-Ok.field-0.reply c.in-Ok.field-0.entry) c.actor_of.ensures served.0, served.1)
    (λ answer. c.answered.ensures config given h c.in-Ok.field-0.entry inside answer)

pub returns-in-Err-clause-steps : goal.returns-in-Err-clause-steps
returns-in-Err-clause-steps g c = λ config given start spare stands.
    let h = reverse c.args.entries.now.items in
    let there = subst (λ l. asked_at l c.args.asking.at ≡ Some c.in_ok-request.request) c.deref.ensures.value (c.request_at.ensures ∙ ap Some (sym c.in_ok-request.ensures)) in
    let inside = subst (λ a. movers.StandsFor config given h a.movers) (sym c.self.view_is) stands.movers in
    let within = subst (λ a. machines.StandsFor config start spare h a.machines) (sym c.self.view_is) stands.machines in
    lost_recorded config given start spare c.args.readings.now c.args.who c.args.asking c.in_ok-request.request c.args.entries.now.items c.reserve.new.self.items c.push_reserved-in-Err.new.self.items c.lost-step.result
    c.in_ok-reserve.ensures.items c.push_reserved-in-Err.ensures.items stands c.requires.awaits there
    (λ machine. sym (c.if-not-has_room.ensures.entries config start spare h within machine))
    (ap (λ a. a.config) c.self.view_is)
    (c.in-Err.ensures.memory config start spare h within)
    (λ awaited. c.lost-step.ensures config given h c.args.asking.to inside awaited)
