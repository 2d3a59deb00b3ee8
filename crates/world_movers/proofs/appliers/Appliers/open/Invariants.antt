use Rattle.std.proofs.Common.{[]}
use Rattle.world_movers.specs.Slots.{ApplierStands, EachAt}
use Rattle.world_movers.proofs.appliers.Appliers.open.Given as goal

abbrev pub invariant-loop-tablet : goal.invariant-loop-tablet
invariant-loop-tablet l = EachAt l.slots.items l.tablet (λ k slot. ApplierStands l.config k [] slot)
