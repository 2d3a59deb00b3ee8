use Rattle.std.proofs.Common.{sym, ◌∙◌}
use Rattle.world_movers.proofs.Placed.{get_read}
use Rattle.world_movers.proofs.Seats.{none_next, slot_stands}
use Rattle.world_movers.proofs.sessions.Sessions.left.Goals as goal

pub returns-in-Some : goal.returns-in-Some
returns-in-Some c = λ config given h stand.
    let s = c.args.self.now in
    let n = c.in-Some.index in
    let old = slot_stands config given h s c.args.number n c.index.result.now stand (sym c.in-Some.ensures.value) (get_read s.slots.items n c.index.result.now c.in-Some.ensures.within c.index.ensures) in
    old.left

pub returns-in-None : goal.returns-in-None
returns-in-None c = λ config given h stand. sym (none_next config given h c.args.self.now c.args.number stand (sym c.in-None.ensures.value))
