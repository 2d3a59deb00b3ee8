use Rattle.std.proofs.Common.{◌≡◌, ◌-◌, ◌≤◌, length}
use Rattle.doc_value.specs.Reading.{onto}
use Rattle.doc_key.specs.Reading.{columns_at}
use Rattle.doc_key.proofs.read.columns_at.Given as goal

abbrev pub invariant-loop-tag : goal.invariant-loop-tag
invariant-loop-tag l =
    (onto l.columns.items (columns_at l.whole (l.most - length l.columns.items) l.rest) ≡ onto l.fn.columns.items (columns_at l.whole (l.most - length l.fn.columns.items) l.bytes)) × (length l.columns.items ≤ l.most) × (length l.rest ≤ length l.bytes)

abbrev pub decreases-loop-tag : goal.decreases-loop-tag
decreases-loop-tag l = length l.rest
