use Rattle.std.proofs.Common.{◌≡◌, ◌≤◌, ◌^◌, ◌∙◌, length, sym, subst}
use Rattle.std.proofs.Math.Logic.{∥∥₁_map}
use Rattle.txn_types.specs.History.{history_of, own}
use Rattle.txn_types.specs.Run.{Asked, flight}
use Rattle.txn_types.specs.Script.{actor_of}
use Rattle.world_actors.specs.Standing.{AreStanding}
use Rattle.world_actors.specs.Steps.{Steps}
use Rattle.world_core.specs.World.{recorded}
use Rattle.world_core.proofs.Keeping.{for_some, standing_keeps, stepped}
use Rattle.world_core.proofs.world.World.step.Goals as goal

pub invariant_of-self : goal.invariant_of-self
invariant_of-self g c =
    ∥∥₁_map c.self.invariant (λ s.
    let on = stepped s.config s.given s.start s.spare c.args.readings.now (actor_of c.args.who) c.self.inside.trace.entries c.into_items-entries.result.items c.step-moved.new.entries.items c.of.result
    (c.into_items-entries.ensures ∙ c.replace-entries.ensures.value) c.of.ensures (c.step-moved.ensures.steps s.config s.given s.start s.spare) s.standing in
    for_some s.config s.given s.start s.spare (history_of (record { entries = c.of.result })) c.step-moved.new.self on.standing)

pub returns-clause-stands : goal.returns-clause-stands
returns-clause-stands g c = λ config given start spare stands.
    (stepped config given start spare c.args.readings.now (actor_of c.args.who) c.self.inside.trace.entries c.into_items-entries.result.items c.step-moved.new.entries.items c.of.result
    (c.into_items-entries.ensures ∙ c.replace-entries.ensures.value) c.of.ensures (c.step-moved.ensures.steps config given start spare)
    (subst (λ w. AreStanding config given start spare (recorded w) w.actors) (sym c.self.view_is) stands)).standing

pub returns-clause-steps : goal.returns-clause-steps
returns-clause-steps g c = λ config given start spare stands.
    subst (λ w. Steps given config c.args.readings.now (actor_of c.args.who) (recorded w) (history_of (record { entries = c.of.result })) c.step-moved.result) c.self.view_is
    (stepped config given start spare c.args.readings.now (actor_of c.args.who) c.self.inside.trace.entries c.into_items-entries.result.items c.step-moved.new.entries.items c.of.result
    (c.into_items-entries.ensures ∙ c.replace-entries.ensures.value) c.of.ensures (c.step-moved.ensures.steps config given start spare)
    (subst (λ w. AreStanding config given start spare (recorded w) w.actors) (sym c.self.view_is) stands)).steps

pub returns-clause-full : goal.returns-clause-full
returns-clause-full g c = λ config given start spare by asked stands flies full.
    let on = stepped config given start spare c.args.readings.now (actor_of c.args.who) c.self.inside.trace.entries c.into_items-entries.result.items c.step-moved.new.entries.items c.of.result
    (c.into_items-entries.ensures ∙ c.replace-entries.ensures.value) c.of.ensures (c.step-moved.ensures.steps config given start spare)
    (subst (λ w. AreStanding config given start spare (recorded w) w.actors) (sym c.self.view_is) stands) in
    on.full by asked (subst (λ w. flight (actor_of c.args.who) (recorded w) ≡ Asked by asked) (sym c.self.view_is) flies) (subst (λ w. 2 ^ 62 ≤ length (own by (recorded w))) (sym c.self.view_is) full)

pub returns-clause-keeps : goal.returns-clause-keeps
returns-clause-keeps g c = λ config given start spare stands.
    standing_keeps config given start spare (history_of (record { entries = c.of.result })) c.step-moved.new.self
    (stepped config given start spare c.args.readings.now (actor_of c.args.who) c.self.inside.trace.entries c.into_items-entries.result.items c.step-moved.new.entries.items c.of.result
    (c.into_items-entries.ensures ∙ c.replace-entries.ensures.value) c.of.ensures (c.step-moved.ensures.steps config given start spare)
    (subst (λ w. AreStanding config given start spare (recorded w) w.actors) (sym c.self.view_is) stands)).standing
