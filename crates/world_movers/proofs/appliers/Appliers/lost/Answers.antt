use Rattle.std.proofs.Common.{◌<◌, ◌∷◌, length, refl, subst, sym, ℕ}
use Rattle.txn_data.specs.declared.actor.Actor.TheVariants.{Applier}
use Rattle.txn_types.specs.History.{own}
use Rattle.mover_chain.specs.NextEvent.{NextEvent}
use Rattle.mover_seat.specs.Step.{HearsMemory}
use Rattle.world_movers.specs.Slots.{applier_asking}
use Rattle.world_movers.proofs.Entries.{move_by}
use Rattle.world_movers.proofs.Passing.{appliers_more, next_there}
use Rattle.world_movers.proofs.Placed.{get_read, within_some}
use Rattle.world_movers.proofs.appliers.Appliers.lost.Goals as goal

pub returns : goal.returns
returns c = λ config h to done stand goes.
    let s = c.args.self.now in
    let k = c.args.tablet in
    let a = Applier k in
    let e = c.lost.result.entry in
    let within = within_some applier_asking s.slots.items k c.requires in
    let old = stand.slots.each k c.index_mut.result.now (get_read s.slots.items k c.index_mut.result.now within c.index_mut.ensures.value) in
    let there : k < config.tablets = subst (λ (n : ℕ). k < n) stand.slots.as_many within in
    let step = c.lost.ensures config k h to done old goes in (
      subst (λ (next : NextEvent). HearsMemory config a next (own a h) to c.lost.result) (sym (next_there done config k h there)) step.0,
      appliers_more config h k e s _ c.lost.new.self stand there (move_by config a (own a h) e (λ never. never) step.0.actor step.0.allowed) refl step.1,
    )
