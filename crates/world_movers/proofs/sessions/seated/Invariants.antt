use Rattle.std.proofs.Common.{◌≡◌, false, [], take}
use Rattle.mover_seat.specs.Session.{given_of, is_finished}
use Rattle.world_movers.specs.Slots.{SessionStands}
use Rattle.world_movers.proofs.sessions.seated.Given as goal

abbrev pub invariant-loop-line : goal.invariant-loop-line
invariant-loop-line l = record {
  stands : SessionStands l.config l.plan.session (take l.line-index l.line-items) false [] l.slot;
  given : given_of l.slot.seat ≡ l.line-index;
  unfinished : is_finished l.slot.seat ≡ false;
}
