use Rattle.std.proofs.Common.{◌≡◌, ◌-◌, ◌≤◌, length}
use Rattle.log_record.specs.Reading.{onto, each, u32_at}
use Rattle.log_record.proofs.fields.numbers_at.Given as goal

abbrev pub invariant-loop : goal.invariant-loop
invariant-loop l =
    (onto l.numbers.items (each u32_at (l.count - l.counter) l.whole l.rest) ≡ each u32_at l.count l.whole l.bytes)
    × (length l.rest ≤ length l.bytes)
