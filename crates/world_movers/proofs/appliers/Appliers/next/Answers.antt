use Rattle.std.proofs.Common.{◌≡◌, ◌<◌, ◌∷◌, Bool, ℕ, length, refl, subst, sym, ap, ◌∙◌, arith}
use Rattle.std.proofs.lemmas.Option.{IfSome_then}
use Rattle.txn_data.specs.declared.actor.Actor.TheVariants.{Applier}
use Rattle.txn_types.specs.History.{own}
use Rattle.txn_types.specs.Run.{flight}
use Rattle.mover_chain.specs.NextEvent.{NextEvent, is_left}
use Rattle.mover_seat.specs.Step.{IsStep}
use Rattle.world_movers.proofs.Entries.{move_by}
use Rattle.world_movers.proofs.Passing.{appliers_more, appliers_same, next_there}
use Rattle.world_movers.proofs.Placed.{get_read}
use Rattle.world_movers.proofs.appliers.Appliers.next.Goals as goal

pub returns-clause-some : goal.returns-clause-some
returns-clause-some c = λ config h stand here.
    let s = c.args.self.now in
    let k = c.args.tablet in
    let a = Applier k in
    let within : k < length s.slots.items = omega (arith, s.slots.ok.0) in
    let old = stand.slots.each k c.index_mut.result.now (get_read s.slots.items k c.index_mut.result.now within c.index_mut.ensures.value) in
    let there : k < config.tablets = subst (λ (n : ℕ). k < n) stand.slots.as_many within in
    IfSome_then c.next.result (c.next.ensures.some config k h old here) (λ step made. λ reading.
    let mine = (made reading).0 in (
      subst (λ (next : NextEvent). IsStep config a next reading (own a h) (flight a h) step) (sym (next_there c.args.done config k h there)) mine,
      appliers_more config h k step.entry s _ c.next.new.self stand there (move_by config a (own a h) step.entry (λ never. never) mine.actor mine.allowed) refl (made reading).1,
    ))

pub returns-clause-none : goal.returns-clause-none
returns-clause-none c = λ config h stand none.
    let s = c.args.self.now in
    let k = c.args.tablet in
    let within : k < length s.slots.items = omega (arith, s.slots.ok.0) in
    let old = stand.slots.each k c.index_mut.result.now (get_read s.slots.items k c.index_mut.result.now within c.index_mut.ensures.value) in
    let there : k < config.tablets = subst (λ (n : ℕ). k < n) stand.slots.as_many within in
    let over = c.next.ensures.none config k h old none in
    (ap is_left (next_there c.args.done config k h there) ∙ over.0, appliers_same config h k s _ c.next.new.self stand refl over.1)
