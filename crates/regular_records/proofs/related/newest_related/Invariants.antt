use Rattle.std.proofs.Common.{◌≡◌}
use Rattle.std.specs.Prelude.{option_map}
use Rattle.regular_records.specs.Related.{newest_met, newest_down, found_at}
use Rattle.regular_records.proofs.related.newest_related.Given as goal

abbrev pub invariant-loop-below : goal.invariant-loop-below
invariant-loop-below l =
    newest_down l.fn.t (option_map (λ w. w.now) l.fn.window) l.path.items (option_map newest_met l.newest) l.below-iterator
    ≡ found_at l.fn.t (option_map (λ w. w.now) l.fn.window) l.path.items l.paths
