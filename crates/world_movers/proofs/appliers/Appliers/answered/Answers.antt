use Rattle.std.proofs.Common.{◌<◌, ◌∷◌, length, refl, subst, ℕ}
use Rattle.txn_data.specs.declared.actor.Actor.TheVariants.{Applier}
use Rattle.world_movers.specs.Slots.{applier_asking}
use Rattle.world_movers.proofs.Entries.{move_served}
use Rattle.world_movers.proofs.Passing.{appliers_more}
use Rattle.world_movers.proofs.Placed.{get_read, within_some}
use Rattle.world_movers.proofs.appliers.Appliers.answered.Goals as goal

pub returns : goal.returns
returns c = λ config h e stand is.
    let s = c.args.self.now in
    let k = c.args.tablet in
    let within = within_some applier_asking s.slots.items k c.requires in
    let old = stand.slots.each k c.index_mut.result.now (get_read s.slots.items k c.index_mut.result.now within c.index_mut.ensures.value) in
    let there : k < config.tablets = subst (λ (n : ℕ). k < n) stand.slots.as_many within in
    appliers_more config h k e s _ c.heard.new.self stand there (move_served config h (Applier k) c.args.reply e is) refl (c.heard.ensures config k h e old is)
