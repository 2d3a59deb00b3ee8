use Rattle.std.proofs.Common.{◌≡◌, take}
use Rattle.std.specs.List.{fold}
use Rattle.doc_value.specs.Spelling.{escaped}
use Rattle.doc_key.specs.Hash.{fnv_step}
use Rattle.doc_key.proofs.hash.fnv_text.Given as goal

abbrev pub invariant-loop-byte : goal.invariant-loop-byte
invariant-loop-byte l = l.hash ≡ fold fnv_step l.fn.hash (escaped (take l.byte-index l.text))
