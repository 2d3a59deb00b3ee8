use Rattle.std.proofs.Common.{refl, rules}
use Rattle.world_movers.proofs.Seating.{none_seated}
use Rattle.world_movers.proofs.sessions.Sessions.new.Goals as goal

pub returns : goal.returns
returns c = λ config. none_seated config _ c.new.ensures.items (c.in_ok-vec.ensures.items_if_clones_equal (λ y h. search rules)) refl
