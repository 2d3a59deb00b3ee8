use Rattle.std.proofs.Common.{◌<◌, length, arith, sym, ap, ◌∙◌, subst}
use Rattle.actor_table.specs.History.{most_entries}
use Rattle.actor_table.specs.Values.{StageValue, SeatValue, seat_of}
use Rattle.actor_table.proofs.Acting.{acts-as}
use Rattle.actor_table.proofs.stage.Stage.stamp.Goals as goal

pub fetch_add-found-requires : goal.fetch_add-found-requires
fetch_add-found-requires g c =
    let i = c.seat.invariant.0 in
    let v = c.seat.view_is in
    let room : length (seat_of c.seat.inside.seat.me.0).own < most_entries = subst (λ (x : SeatValue). length x.at.own < most_entries) (sym v) c.requires.room in (
      ap (λ (x : SeatValue). x.table) v ∙ c.requires.stage ∙ sym (ap (λ (x : StageValue). x.table) c.self.view_is),
      omega (arith, c.self.invariant.0),
      acts-as _ _ _ _ _ _ i.0 i.1 i.2 room,
    )
