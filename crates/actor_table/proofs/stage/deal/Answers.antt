use Rattle.std.proofs.Common.{refl, arith}
use Rattle.actor_table.proofs.Dealing.{deals-as}
use Rattle.actor_table.proofs.stage.deal.Goals as goal

pub split_seat-seat-requires : goal.split_seat-seat-requires
split_seat-seat-requires c = (c.requires.table.0, omega (arith, c.requires.table.1), deals-as _ _ _ _ c.requires.first.0 refl c.requires.first.1)
