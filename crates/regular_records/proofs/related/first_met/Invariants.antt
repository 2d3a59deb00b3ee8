use Rattle.std.proofs.Common.{◌≡◌}
use Rattle.std.specs.Prelude.{option_map}
use Rattle.regular_records.specs.Related.{first_time, time_in}
use Rattle.regular_records.proofs.related.first_met.Given as goal

abbrev pub invariant-loop-key : goal.invariant-loop-key
invariant-loop-key l = time_in l.fn.t (option_map (λ w. w.now) l.fn.window) l.versions ≡ first_time l.fn.t (option_map (λ w. w.now) l.fn.window) l.key-iterator
