use Rattle.std.proofs.Common.{◌≡◌, true, arith, sym, ap, ◌∙◌}
use Rattle.actor_table.specs.Steps.{has_message}
use Rattle.actor_table.specs.Values.{StageValue, SeatValue, seat_of}
use Rattle.actor_table.proofs.Messages.{leaves-as}
use Rattle.actor_table.proofs.stage.Stage.leave.Goals as goal

pub split_seat-note-requires : goal.split_seat-note-requires
split_seat-note-requires c =
    let i = c.seat.invariant.0 in
    let holds : has_message (seat_of c.seat.inside.seat.me.0).held ≡ true = ap (λ (x : SeatValue). has_message x.at.held) c.seat.view_is ∙ c.requires.holds in (
      ap (λ (x : SeatValue). x.table) c.seat.view_is ∙ c.requires.stage ∙ sym (ap (λ (x : StageValue). x.table) c.self.view_is),
      omega (arith, c.self.invariant.0),
      leaves-as _ _ _ _ i.0 i.1 holds,
    )
