use Rattle.std.proofs.Common.{◌≡◌, ◌-◌, ◌≤◌, length}
use Rattle.doc_value.specs.Reading.{onto}
use Rattle.sub_doc_key.specs.Reading.{subkeys_at}
use Rattle.sub_doc_key.proofs.read.subkeys_at.Given as goal

abbrev pub invariant-loop-tag : goal.invariant-loop-tag
invariant-loop-tag l =
    (onto l.path (subkeys_at l.whole (5 - length l.path) l.rest) ≡ onto l.fn.path (subkeys_at l.whole (5 - length l.fn.path) l.bytes)) × (length l.rest ≤ length l.bytes)

abbrev pub decreases-loop-tag : goal.decreases-loop-tag
decreases-loop-tag l = length l.rest
