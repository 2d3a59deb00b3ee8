use Rattle.std.proofs.Common.{take}
use Rattle.std.specs.List.{flat_map}
use Rattle.log_record.proofs.Kept.{kept_on_err}
use Rattle.log_record.specs.Spelling.{u32_spelling}
use Rattle.log_record.proofs.encode.append_numbers.Goals as goal

pub returns-in_err-append_u32-clause-memory : goal.returns-in_err-append_u32-clause-memory
returns-in_err-append_u32-clause-memory c =
    kept_on_err c.from_residual.result c.args.out.now.items (flat_map u32_spelling (take c.loop-number.number-index c.args.numbers.now)) c.loop-number.out.items c.append_u32.new.out.items c.loop-number.invariant c.in_err-append_u32.ensures.memory
