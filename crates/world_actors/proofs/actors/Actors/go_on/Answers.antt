use Rattle.std.proofs.Common.{◌≡◌, ◌≤◌, ◌<◌, true, false, length, reverse, IsNone, refl, sym, ◌∙◌, ap, subst, slice_index_or}
use Rattle.std.proofs.Math.Logic.{∥∥₁_elim}
use Rattle.std.proofs.lemmas.List.{length-reverse}
use Rattle.txn_types.specs.Script.{actor_of, node_of, number_at}
use Rattle.world_movers.specs.Movers as movers
use Rattle.world_actors.proofs.Asking.{reads_within, some_nodes}
use Rattle.world_actors.proofs.Recorded.{indexed}
use Rattle.world_actors.proofs.Recording.{next_recorded}
use Rattle.world_actors.proofs.actors.Actors.go_on.Goals as goal

pub node_of-requires : goal.node_of-requires
node_of-requires g c = subst (λ a. 1 ≤ a.config.nodes) (sym c.self.view_is) (some_nodes (reverse c.args.entries.now.items) c.args.self.now c.requires.stand)

pub bounds-readings-node_of : goal.bounds-readings-node_of
bounds-readings-node_of g c =
    subst (λ n. n < length c.args.readings.now) (sym c.node_of.ensures)
    (subst (λ a. node_of a.config c.actor_of.result < length c.args.readings.now) (sym c.self.view_is)
    (reads_within (reverse c.args.entries.now.items) c.args.self.now c.actor_of.result c.args.readings.now c.requires.stand c.requires.readings))

pub unreachable-requires : goal.unreachable-requires
unreachable-requires g c =
    ∥∥₁_elim c.requires.stand (λ x y. absurd x) (λ s.
    let h = reverse c.args.entries.now.items in
    let stands = subst (λ a. movers.StandsFor s.config s.given h a.movers) (sym c.self.view_is) s.standing.movers in
    let none = c.next.ensures.none s.config s.given h stands (subst (λ o. IsNone o) (sym c.in_default.is) refl) in
    let never : true ≡ false = sym (c.requires.left s.config s.given s.standing.movers) ∙ none.0 in
    cc)

pub returns-clause-steps : goal.returns-clause-steps
returns-clause-steps g c = λ config given start spare stands.
    let h = reverse c.args.entries.now.items in
    let inside = subst (λ a. movers.StandsFor config given h a.movers) (sym c.self.view_is) stands.movers in
    let at = c.len.ensures ∙ c.reserve.new.self.ok.0 ∙ ap length c.in_ok-reserve.ensures.items ∙ sym (length-reverse c.args.entries.now.items) in
    let node = c.node_of.ensures ∙ ap (node_of c.self.inside.config) c.actor_of.ensures ∙ ap (λ a. node_of a.config (actor_of c.args.who)) c.self.view_is ∙ ap (λ k. node_of k (actor_of c.args.who)) stands.cluster in
    next_recorded config given start spare c.args.readings.now c.args.who c.args.entries.now.items c.reserve.new.self.items c.push_reserved.new.self.items (slice_index_or c.args.readings.now c.node_of.result 0) c.in-Some.step
    c.in_ok-reserve.ensures.items c.push_reserved.ensures.items stands c.requires.awaits
    (indexed c.args.readings.now c.node_of.result ∙ ap (λ n. number_at n c.args.readings.now) node)
    (ap (λ a. a.config) c.self.view_is) (ap (λ a. a.machines) c.self.view_is)
    (c.in-Some.ensures.some config given h inside at)
