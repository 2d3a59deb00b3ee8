use Rattle.std.proofs.Common.{◌≡◌, ◌++◌, flat_map, map, take}
use Rattle.script_text.specs.Written.{go_words, line_text}
use Rattle.script_text.proofs.writing.write_moves.Given as goal

abbrev pub invariant-lines : goal.invariant-lines
invariant-lines l = l.out.items ≡ l.fn.out.items ++ flat_map line_text (map go_words (take l.line-index l.lines))
