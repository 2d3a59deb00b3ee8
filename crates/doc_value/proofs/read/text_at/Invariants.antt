use Rattle.std.proofs.Common.{◌≡◌, ◌≤◌, length}
use Rattle.doc_value.specs.Reading.{onto, text_at}
use Rattle.doc_value.proofs.read.text_at.Given as goal

abbrev pub invariant-loop-byte : goal.invariant-loop-byte
invariant-loop-byte l = (onto l.text.items (text_at l.whole l.rest) ≡ text_at l.whole l.bytes) × (length l.rest ≤ length l.bytes)

abbrev pub decreases-loop-byte : goal.decreases-loop-byte
decreases-loop-byte l = length l.rest
