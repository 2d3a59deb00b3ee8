use Rattle.std.proofs.Common.{◌≡◌, ◌++◌, ◌∷◌, take}
use Rattle.doc_value.specs.Spelling.{escaped}
use Rattle.doc_value.proofs.encode.append_text.Given as goal

abbrev pub invariant-loop-byte : goal.invariant-loop-byte
invariant-loop-byte l = l.out.items ≡ l.fn.out.items ++ 0x53 ∷ escaped (take l.byte-index l.text)
