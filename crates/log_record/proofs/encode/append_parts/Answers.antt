use Rattle.std.proofs.Common.{◌++◌, ◌∙◌, ap, sym, append_assoc, take, List, ℕ}
use Rattle.std.specs.List.{flat_map}
use Rattle.log_record.proofs.Kept.{kept_on_err}
use Rattle.log_record.proofs.Parts.{passes_at, joined_more}
use Rattle.log_record.specs.Spelling.{are_bytes, bytes_spelling}
use Rattle.log_record.proofs.encode.append_parts.Goals as goal

pub append_bytes-requires : goal.append_bytes-requires
append_bytes-requires c = passes_at are_bytes c.args.path.now c.loop-i.i c.part.result.now c.requires c.part.ensures

pub loop-i-preserved : goal.loop-i-preserved
loop-i-preserved c =
    let more = joined_more bytes_spelling c.args.path.now c.loop-i.i c.part.result.now c.part.ensures in
    let before : List ℕ = flat_map bytes_spelling (take c.loop-i.i c.args.path.now) in
    c.in_ok-append_bytes.ensures.ok
    ∙ ap (λ (t : List ℕ). t ++ bytes_spelling c.part.result.now) c.loop-i.invariant
    ∙ append_assoc c.args.out.now.items before (bytes_spelling c.part.result.now)
    ∙ ap (λ (t : List ℕ). c.args.out.now.items ++ t) (sym more)

pub returns-in_err-append_bytes-clause-memory : goal.returns-in_err-append_bytes-clause-memory
returns-in_err-append_bytes-clause-memory c =
    kept_on_err c.from_residual.result c.args.out.now.items (flat_map bytes_spelling (take c.loop-i.i c.args.path.now)) c.loop-i.out.items c.append_bytes.new.out.items c.loop-i.invariant c.in_err-append_bytes.ensures.memory
