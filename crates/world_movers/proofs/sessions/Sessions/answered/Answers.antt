use Rattle.std.proofs.Common.{refl, sym}
use Rattle.txn_data.specs.declared.actor.Actor.TheVariants.{Session}
use Rattle.txn_types.specs.Script.{commands_of}
use Rattle.world_movers.proofs.Entries.{move_served}
use Rattle.world_movers.proofs.Placed.{get_read}
use Rattle.world_movers.proofs.Seats.{sessions_more, slot_stands}
use Rattle.world_movers.proofs.sessions.Sessions.answered.Goals as goal

pub returns : goal.returns
returns c = λ config given h e stand is.
    let s = c.args.self.now in
    let i = c.args.number in
    let n = c.in-Some.index in
    let index = sym c.in-Some.ensures.value in
    let old = slot_stands config given h s i n c.index_mut.result.now stand index (get_read s.slots.items n c.index_mut.result.now c.in-Some.ensures.within c.index_mut.ensures.value) in
    sessions_more config given h i n e s _ c.heard.new.self stand index (move_served config h (Session i) c.args.reply e is) refl refl refl (c.heard.ensures.stands config i (commands_of i given.sessions) given.all h e old is)
