use Rattle.std.proofs.Common.{◌≡◌, ◌+◌, ◌-◌, ◌≤◌, length}
use Rattle.log_record.specs.Reading.{onto, each, bytes_at}
use Rattle.log_record.proofs.fields.parts_at.Given as goal

abbrev pub invariant-loop : goal.invariant-loop
invariant-loop l =
    (onto l.path (each bytes_at (l.count - l.counter) l.whole l.rest) ≡ onto l.fn.path (each bytes_at l.count l.whole l.bytes))
    × (length l.rest ≤ length l.bytes) × (length l.path ≡ length l.fn.path + l.counter)
