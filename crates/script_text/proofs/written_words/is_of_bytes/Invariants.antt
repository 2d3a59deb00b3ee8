use Rattle.std.proofs.Common.{All, take}
use Rattle.doc_value.specs.Reading.{IsBytes}
use Rattle.script_text.proofs.written_words.is_of_bytes.Given as goal

abbrev pub invariant-loop-i : goal.invariant-loop-i
invariant-loop-i l = All IsBytes (take l.i l.path)
