use Rattle.std.proofs.Common.{refl, sym}
use Rattle.txn_data.specs.declared.actor.Actor.TheVariants.{Session}
use Rattle.txn_types.specs.History.{own}
use Rattle.txn_types.specs.Script.{commands_of}
use Rattle.world_movers.proofs.Entries.{move_by}
use Rattle.world_movers.proofs.Placed.{get_read}
use Rattle.world_movers.proofs.Seats.{sessions_more, slot_stands}
use Rattle.world_movers.proofs.sessions.Sessions.lost.Goals as goal

pub returns : goal.returns
returns c = λ config given h to stand goes.
    let s = c.args.self.now in
    let i = c.args.number in
    let a = Session i in
    let n = c.in-Some.index in
    let e = c.lost.result.entry in
    let index = sym c.in-Some.ensures.value in
    let old = slot_stands config given h s i n c.index_mut.result.now stand index (get_read s.slots.items n c.index_mut.result.now c.in-Some.ensures.within c.index_mut.ensures.value) in
    let step = c.lost.ensures.stands config i (commands_of i given.sessions) given.all h to old goes in (
      step.0,
      sessions_more config given h i n e s _ c.lost.new.self stand index (move_by config a (own a h) e (λ never. never) step.0.actor step.0.allowed) refl refl refl step.1,
    )
