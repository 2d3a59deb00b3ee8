use Rattle.std.proofs.Common.{◌≡◌, ◌≤◌}
use Rattle.std.specs.Prelude.{option_map, IfSome}
use Rattle.regular_records.specs.Store.{newest_upto, word_version}
use Rattle.regular_records.proofs.word.newest_word.Given as goal

abbrev pub invariant-loop-i : goal.invariant-loop-i
invariant-loop-i l = record {
  value : option_map (word_version l.path) l.word ≡ newest_upto l.fn.t l.path l.paths l.i;
  parts : IfSome l.word (λ w. w.parts ≤ l.i);
}
