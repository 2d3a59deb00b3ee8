use Rattle.std.proofs.Common.{◌≡◌, ◌++◌, ◌∷◌, take}
use Rattle.std.specs.List.{flat_map}
use Rattle.doc_value.specs.Showing.{shown_byte}
use Rattle.doc_value.proofs.show.show_text.Given as goal

abbrev pub invariant-loop-byte : goal.invariant-loop-byte
invariant-loop-byte l = l.out.items ≡ l.fn.out.items ++ 34 ∷ flat_map shown_byte (take l.byte-index l.text)
