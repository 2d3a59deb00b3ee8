use Rattle.std.proofs.Common.{◌≡◌, Some, None, drop}
use Rattle.std.specs.Prelude.{option_map}
use Rattle.regular_records.specs.Related.{newest_met, best_from}
use Rattle.regular_records.proofs.related.best_of.Given as goal

abbrev pub invariant-loop-path : goal.invariant-loop-path
invariant-loop-path l =
    best_from l.t (Some l.window) l.paths (option_map newest_met l.best) (drop l.path-index l.asked) ≡ best_from l.t (Some l.window) l.paths None l.asked
