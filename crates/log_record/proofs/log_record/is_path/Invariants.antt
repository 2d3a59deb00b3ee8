use Rattle.std.proofs.Common.{◌≡◌, take, true}
use Rattle.std.specs.List.{list_all}
use Rattle.log_record.specs.Spelling.{are_bytes}
use Rattle.log_record.proofs.log_record.is_path.Given as goal

abbrev pub invariant-loop-i : goal.invariant-loop-i
invariant-loop-i l = list_all are_bytes (take l.i l.path) ≡ true
