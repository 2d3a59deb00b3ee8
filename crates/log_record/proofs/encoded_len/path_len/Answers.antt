use Rattle.std.proofs.Common.{length, take, ap, arith}
use Rattle.std.specs.List.{flat_map, list_all}
use Rattle.std.proofs.lemmas.Bool.{and_parts}
use Rattle.std.proofs.lemmas.List.{length-append}
use Rattle.log_record.proofs.Parts.{passes_at, joined_more}
use Rattle.log_record.specs.Spelling.{is_within, are_bytes, bytes_spelling}
use Rattle.log_record.proofs.encoded_len.path_len.Goals as goal

pub bytes_len-len-requires : goal.bytes_len-len-requires
bytes_len-len-requires c =
    let both = and_parts (is_within 1 5 (length c.args.path.now)) (list_all are_bytes c.args.path.now) c.requires in
    passes_at are_bytes c.args.path.now c.loop-i.i c.part.result.now both.1 c.part.ensures

pub loop-i-preserved : goal.loop-i-preserved
loop-i-preserved c =
    let part = c.part.result.now in
    let before = flat_map bytes_spelling (take c.loop-i.i c.args.path.now) in
    let more = ap length (joined_more bytes_spelling c.args.path.now c.loop-i.i part c.part.ensures) in
    (omega (arith, more, length-append before (bytes_spelling part)), omega arith)
