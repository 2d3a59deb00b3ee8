use Rattle.std.proofs.Common.{arith, sym, ap, ◌∙◌}
use Rattle.atomic_table.specs.Table.{Me}
use Rattle.actor_table.specs.declared.view.View.{View}
use Rattle.actor_table.specs.Values.{StageValue, SeatValue, NoteValue}
use Rattle.actor_table.proofs.Messages.{arrives-as}
use Rattle.actor_table.proofs.stage.Stage.arrive.Goals as goal

pub join_seat-requires : goal.join_seat-requires
join_seat-requires c =
    let stage = sym (ap (λ (x : StageValue). x.table) c.self.view_is) in (
      ap (λ (x : SeatValue). x.table) c.seat.view_is ∙ c.requires.stage.0 ∙ stage,
      ap (λ (x : NoteValue). x.table) c.note.view_is ∙ c.requires.stage.1 ∙ stage,
      ap (λ (m : Me (Unit {0}) View). m.1) c.note.invariant,
      omega (arith, c.self.invariant.0),
      arrives-as _ _ _ _ _ _ _ c.seat.invariant.0.0 c.note.invariant c.seat.invariant.0.1,
    )
