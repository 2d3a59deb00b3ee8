use Rattle.std.proofs.Common.{◌≡◌, ◌≤◌, ◌+◌, ◌*◌, length, take}
use Rattle.std.specs.List.{flat_map}
use Rattle.log_record.specs.Spelling.{bytes_spelling}
use Rattle.log_record.proofs.encoded_len.path_len.Given as goal

abbrev pub invariant-loop-i : goal.invariant-loop-i
invariant-loop-i l = (l.len ≡ 1 + length (flat_map bytes_spelling (take l.i l.path))) × (l.len ≤ 1 + 65540 * l.i)
