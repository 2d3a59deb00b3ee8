use Rattle.std.proofs.Common.{◌≡◌}
use Rattle.std.specs.Prelude.{option_map}
use Rattle.regular_records.specs.Related.{newest_met, above_upto}
use Rattle.regular_records.proofs.related.newest_above.Given as goal

abbrev pub invariant-loop-i : goal.invariant-loop-i
invariant-loop-i l = option_map newest_met l.newest ≡ above_upto l.fn.t (option_map (λ w. w.now) l.fn.window) l.path l.paths l.i
