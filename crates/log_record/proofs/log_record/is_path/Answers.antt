use Rattle.std.proofs.Common.{length, sym}
use Rattle.std.specs.List.{list_all}
use Rattle.std.specs.Prelude.{nat_le}
use Rattle.log_record.proofs.Parts.{fails_at, none_fails}
use Rattle.log_record.specs.Spelling.{are_bytes}
use Rattle.log_record.proofs.log_record.is_path.Goals as goal

pub returns-then-not-are_bytes : goal.returns-then-not-are_bytes
returns-then-not-are_bytes c =
    let fails = fails_at are_bytes c.args.path.now c.loop-i.i c.part.result.now c.part.ensures (sym c.if-not-are_bytes.ensures) in
    sym (none_fails (nat_le 1 (length c.args.path.now)) (nat_le (length c.args.path.now) 5) (list_all are_bytes c.args.path.now) fails)
